use Rattle.sre_match.specs.Captures.{captures}
use Rattle.std.proofs.Common.{◌≡◌, sym, ap, ◌∙◌, ◌+◌, length, arith}
use Rattle.std.specs.Prelude.{slice_range}
use Rattle.sre_match.specs.Machine.{run, onward, part_next, to_try}
use Rattle.sre_match.specs.declared.matcher.trail.Part.TheVariants.{Skip}
use Rattle.sre_match.proofs.LeafLemmas.{leaf_skip, leaf_fail}
use Rattle.sre_match.proofs.LessLemmas.{leaves_then, leaves_is}
use Rattle.sre_match.proofs.UnitLemmas.{range_length}
use Rattle.sre_match.proofs.matcher.references.span_again_turn.Goals as goal

pub returns-then-same_text-clause-gives : goal.returns-then-same_text-clause-gives
returns-then-same_text-clause-gives g c =
    let s = c.args.s.now in
    let t = c.args.trail.now in
    let i = c.args.current.now.rest in
    let p = c.args.current.now.cursor.place in
    let m = captures t.marks.items in
    let e : p + length (slice_range s c.args.from.now.place c.args.stop) ≡ c.same_text.new.cursor.place = omega (arith, range_length s c.args.from.now.place c.args.stop c.requires.stop, c.same_text.ensures.place c.if-same_text.true) in
    leaves_then c.args.steps.now c.same_text.new.steps c.same_text.new.steps _ _ _
    (leaf_skip s t _ _ i _ c.args.steps.now c.same_text.new.steps m (sym c.same_text.ensures.same ∙ c.if-same_text.true) c.same_text.ensures.cost)
    (leaves_is c.same_text.new.steps _ _ (ap (λ q. to_try s t (onward t.frames.items (part_next Skip s) i s q m)) e))

pub returns-else-same_text-clause-gives : goal.returns-else-same_text-clause-gives
returns-else-same_text-clause-gives g c =
    let s = c.args.s.now in
    let t = c.args.trail.now in
    leaf_fail s t _ _ _ c.args.steps.now c.same_text.new.steps (captures t.marks.items) (run t.frames.items c.args.current.now.rest s) (sym c.same_text.ensures.same ∙ c.if-same_text.false) c.same_text.ensures.cost
