use Rattle.sre_match.specs.Captures.{captures}
use Rattle.std.proofs.Common.{◌≡◌, false, true, sym, ap, ◌∙◌, [], ◌++◌, ◌+◌, ◌-◌, arith}
use Rattle.std.specs.Prelude.{Some}
use Rattle.std.proofs.lemmas.Bool.{lt-ltb}
use Rattle.sre_code.specs.TreeView.{node_of}
use Rattle.sre_match.specs.Machine.{run, onward, part_next, to_try}
use Rattle.sre_match.specs.declared.matcher.trail.Part.TheVariants.{Skip}
use Rattle.sre_match.specs.Attempts.{after, stay, Next}
use Rattle.sre_match.specs.Paths.{paths, attempt}
use Rattle.sre_match.specs.Repeats.{optional, is_past}
use Rattle.sre_match.specs.Singles.{meets}
use Rattle.sre_match.proofs.AfterLemmas.{stay_after, after-append}
use Rattle.sre_match.proofs.ChoiceLemmas.{pile_fail}
use Rattle.sre_match.proofs.FullLemmas.{full, optional_full}
use Rattle.sre_match.proofs.LeafLemmas.{skip_on}
use Rattle.sre_match.proofs.LessLemmas.{leaves_then, leaves_is, leaves_failed, gives_less}
use Rattle.sre_match.proofs.RepeatLemmas.{optional_either}
use Rattle.sre_match.proofs.RunLemmas.{IsUnit, unit_body, once_met}
use Rattle.sre_match.proofs.TurnLemmas.{run_full}
use Rattle.sre_match.proofs.matcher.iterations.once_turn.Goals as goal

pub returns-then-not-met_at-clause-gives : goal.returns-then-not-met_at-clause-gives
returns-then-not-met_at-clause-gives g c =
    let s = c.args.s.now in
    let p = c.args.current.now.cursor.place in
    let t = c.args.trail.now in
    let m = (captures t.marks.items) in
    let n = node_of c.in-Some.node.now in
    let body : Next = paths c.args.body.now s in
    let more : Next = optional body false c.args.room (Some p) in
    let k : Next = run t.frames.items c.args.current.now.rest s in
    let unit : IsUnit (meets n) s body = unit_body c.args.body.now n s c.in-Some.ensures.only c.in-Some.ensures.single in
    leaves_failed c.args.steps.now c.met_at.new.steps 1 _ _ c.met_at.ensures.cost
    (ap (λ l. to_try s t (after (after l more) k)) (unit p m ∙ ap (λ b. attempt b 1 (p + 1) m) (sym c.met_at.ensures.met ∙ c.if-not-met_at.true))
    ∙ pile_fail s t.frames.items m t.choices.items 1 [])

pub returns-then-room-eq0-clause-gives : goal.returns-then-room-eq0-clause-gives
returns-then-room-eq0-clause-gives g c =
    let s = c.args.s.now in
    let p = c.args.current.now.cursor.place in
    let i = c.args.current.now.rest in
    let t = c.args.trail.now in
    let m = (captures t.marks.items) in
    let n = node_of c.in-Some.node.now in
    let old = c.args.steps.now in
    let new = c.met_at.new.steps in
    let body : Next = paths c.args.body.now s in
    let more : Next = optional body false c.args.room (Some p) in
    let k : Next = run t.frames.items i s in
    let unit : IsUnit (meets n) s body = unit_body c.args.body.now n s c.in-Some.ensures.only c.in-Some.ensures.single in
    leaves_then old new new _ _ _
    (once_met t s body more k (meets n) p old new m unit (optional_full body false c.args.room (Some p) (full c.args.body.now s)) (run_full t.frames.items i s) (sym c.met_at.ensures.met ∙ c.if-not-met_at.false) c.met_at.ensures.cost)
    (leaves_then new new new _ _ _
    (leaves_is new _ _ (ap (λ j. to_try s t (after (optional body false j (Some p) (p + 1) m) k)) c.if-room-eq0.true ∙ ap (to_try s t) (stay_after (p + 1) m k)))
    (leaves_then new new new _ _ _
    (skip_on s t new i (p + 1) m)
    (leaves_is new _ _ (ap (λ q. to_try s t (onward t.frames.items (part_next Skip s) i s q m)) (sym c.skip.ensures.place)))))

pub returns-else-room-eq0-clause-gives : goal.returns-else-room-eq0-clause-gives
returns-else-room-eq0-clause-gives g c =
    let s = c.args.s.now in
    let p = c.args.current.now.cursor.place in
    let i = c.args.current.now.rest in
    let j = c.args.room in
    let t = c.args.trail.now in
    let m = (captures t.marks.items) in
    let n = node_of c.in-Some.node.now in
    let old = c.args.steps.now in
    let new = c.met_at.new.steps in
    let body : Next = paths c.args.body.now s in
    let more : Next = optional body false j (Some p) in
    let k : Next = run t.frames.items i s in
    let unit : IsUnit (meets n) s body = unit_body c.args.body.now n s c.in-Some.ensures.only c.in-Some.ensures.single in
    let later = after (body (p + 1) m) (optional body false (j - 1) (Some (p + 1))) in
    let past : is_past (Some p) (p + 1) ≡ true = lt-ltb p (p + 1) (omega arith) in
    let some : j ≡ 0 → ⊥ = λ e. omega (arith, e, c.if-room-eq0.false e) in
    gives_less c.once_later.result _ s _ old new new _ _
    (leaves_then old new new _ _ _
    (once_met t s body more k (meets n) p old new m unit (optional_full body false j (Some p) (full c.args.body.now s)) (run_full t.frames.items i s) (sym c.met_at.ensures.met ∙ c.if-not-met_at.false) c.met_at.ensures.cost)
    (leaves_is new _ _ (ap (λ l. to_try s t (after l k)) (optional_either body false j (Some p) (p + 1) m some past)
    ∙ ap (to_try s t) (after-append (stay (p + 1) m) later k ∙ ap (λ l. l ++ after later k) (stay_after (p + 1) m k))
    ∙ ap (λ q. to_try s t (k q m ++ after (after (body q m) (optional body false (j - 1) (Some q))) k)) (sym c.skip.ensures.place))))
    (c.once_later.ensures.gives s new)
