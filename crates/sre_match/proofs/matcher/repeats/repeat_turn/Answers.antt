use Rattle.sre_match.specs.Captures.{captures}
use Rattle.std.proofs.Common.{sym, ◌∙◌, ap}
use Rattle.sre_match.specs.Machine.{run, to_try, kind_paths}
use Rattle.sre_match.specs.Attempts.{after, Next}
use Rattle.sre_match.specs.Paths.{paths}
use Rattle.sre_match.specs.Repeats.{room_in}
use Rattle.sre_match.proofs.LessLemmas.{gives_is}
use Rattle.sre_match.proofs.RepeatLemmas.{repeat_kind}
use Rattle.sre_match.proofs.matcher.repeats.repeat_turn.Goals as goal

pub returns-in-Some-clause-gives : goal.returns-in-Some-clause-gives
returns-in-Some-clause-gives g c one_wide =
    let s = c.args.s.now in
    let p = c.args.current.now.cursor.place in
    let t = c.args.trail.now in
    let m = (captures t.marks.items) in
    let k : Next = run t.frames.items c.args.current.now.rest s in
    let b = c.args.body.now in
    gives_is c.single_repeat.result _ s _ _ _ _ _
    (ap (λ l. to_try s t (after l k)) (repeat_kind c.args.kind one_wide c.args.least c.args.greatest b s p m
    ∙ ap (λ j. kind_paths c.args.kind (paths b s) c.args.least j p m) (ap (λ n. room_in n c.args.least c.args.greatest) (sym c.count.ensures.count) ∙ sym c.room_in-room.ensures.room)))
    c.single_repeat.ensures.gives

pub returns-in-None-clause-gives : goal.returns-in-None-clause-gives
returns-in-None-clause-gives g c one_wide =
    let s = c.args.s.now in
    let p = c.args.current.now.cursor.place in
    let t = c.args.trail.now in
    let m = (captures t.marks.items) in
    let k : Next = run t.frames.items c.args.current.now.rest s in
    let b = c.args.body.now in
    gives_is c.general_repeat.result _ s _ _ _ _ _
    (ap (λ l. to_try s t (after l k)) (repeat_kind c.args.kind one_wide c.args.least c.args.greatest b s p m
    ∙ ap (λ j. kind_paths c.args.kind (paths b s) c.args.least j p m) (ap (λ n. room_in n c.args.least c.args.greatest) (sym c.count.ensures.count) ∙ sym c.room_in-room.ensures.room)))
    (c.general_repeat.ensures.gives s c.args.steps.now)
