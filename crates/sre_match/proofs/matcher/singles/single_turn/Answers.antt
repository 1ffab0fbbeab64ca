use Rattle.sre_match.specs.Captures.{captures}
use Rattle.std.proofs.Common.{sym, ap, ◌∙◌}
use Rattle.sre_match.specs.Machine.{onward, part_next, to_try}
use Rattle.sre_match.proofs.LeafLemmas.{leaf_go, leaf_fail}
use Rattle.sre_match.proofs.LessLemmas.{leaves_then, leaves_is}
use Rattle.sre_match.proofs.TurnLemmas.{part_onward}
use Rattle.sre_match.proofs.matcher.singles.single_turn.Goals as goal

pub returns-then-met_at-clause-gives : goal.returns-then-met_at-clause-gives
returns-then-met_at-clause-gives g c =
    let s = c.args.s.now in
    let t = c.args.trail.now in
    let i = c.args.current.now.rest in
    let m = captures t.marks.items in
    let n = c.met_at.new.steps in
    leaves_then c.args.steps.now n n _ _ _
    (leaf_go s t _ 1 _ c.args.steps.now n m (onward t.frames.items (part_next c.args.part s) i s) (part_onward t.frames.items c.args.part i s)
    (sym c.met_at.ensures.met ∙ c.if-met_at.true) c.met_at.ensures.cost)
    (leaves_is n _ _ (ap (λ p. to_try s t (onward t.frames.items (part_next c.args.part s) i s p m)) (sym c.skip.ensures.place)))

pub returns-else-met_at-clause-gives : goal.returns-else-met_at-clause-gives
returns-else-met_at-clause-gives g c =
    let s = c.args.s.now in
    let t = c.args.trail.now in
    let i = c.args.current.now.rest in
    leaf_fail s t _ 1 _ c.args.steps.now c.met_at.new.steps (captures t.marks.items) (onward t.frames.items (part_next c.args.part s) i s)
    (sym c.met_at.ensures.met ∙ c.if-met_at.false) c.met_at.ensures.cost
