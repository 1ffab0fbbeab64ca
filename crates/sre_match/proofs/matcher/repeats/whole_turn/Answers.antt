use Rattle.sre_match.specs.Captures.{captures}
use Rattle.std.proofs.Common.{ap, refl, sym, ◌∙◌, true, arith}
use Rattle.sre_match.specs.Machine.{to_try, run}
use Rattle.sre_match.specs.Attempts.{Next, after, cut}
use Rattle.sre_match.specs.Paths.{paths}
use Rattle.sre_match.specs.Repeats.{repeat_paths}
use Rattle.sre_match.proofs.AfterLemmas.{after_stay}
use Rattle.sre_match.proofs.FrameLemmas.{run_zero, skip_is}
use Rattle.sre_match.proofs.LessLemmas.{gives_is}
use Rattle.sre_match.proofs.matcher.repeats.whole_turn.Goals as goal

pub returns-clause-gives : goal.returns-clause-gives
returns-clause-gives c s n =
    let p = c.args.current.now.cursor.place in
    let i = c.args.current.now.rest in
    let old = c.args.trail.now in
    let mid = c.keep.new.trail in
    let m = (captures old.marks.items) in
    let xs = repeat_paths (paths c.args.body.now s) true c.args.least c.args.room p m in
    gives_is c.rep_turn.result _ s c.rep_turn.new.trail n n _ _
    (ap (λ (f : Next). to_try s old (after (cut xs) f)) (sym (skip_is old.frames.items i s))
    ∙ sym (c.in-Ok.ensures.tried s xs)
    ∙ ap (to_try s mid) (sym (after_stay xs)
    ∙ ap (λ (f : Next). after xs f) (sym (run_zero mid.frames.items 0 s refl))
    ∙ ap (λ l. after (repeat_paths (paths c.args.body.now s) true c.args.least c.args.room p l) (run mid.frames.items 0 s)) (sym c.in-Ok.ensures.marks)))
    (c.rep_turn.ensures.gives s n)

pub returns-clause-ready : goal.returns-clause-ready
returns-clause-ready c ok p = c.rep_turn.ensures.ready ok (record { sound = c.in-Ok.ensures.sound; deep = omega arith; here = p.here; kept = c.in-Ok.ensures.fit ok p.here p.kept })
