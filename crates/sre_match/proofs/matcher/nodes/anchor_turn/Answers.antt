use Rattle.sre_match.specs.Captures.{captures}
use Rattle.std.proofs.Common.{sym, ◌∙◌}
use Rattle.sre_match.specs.Machine.{run}
use Rattle.sre_match.proofs.LeafLemmas.{leaf_skip, leaf_fail}
use Rattle.sre_match.proofs.matcher.nodes.anchor_turn.Goals as goal

pub returns-then-is_at_anchor-clause-gives : goal.returns-then-is_at_anchor-clause-gives
returns-then-is_at_anchor-clause-gives g c =
    let s = c.args.s.now in
    let t = c.args.trail.now in
    leaf_skip s t _ 2 c.args.current.now.rest _ c.args.steps.now c.is_at_anchor.new.steps (captures t.marks.items) (sym c.is_at_anchor.ensures.met ∙ c.if-is_at_anchor.true) c.is_at_anchor.ensures.cost

pub returns-else-is_at_anchor-clause-gives : goal.returns-else-is_at_anchor-clause-gives
returns-else-is_at_anchor-clause-gives g c =
    let s = c.args.s.now in
    let t = c.args.trail.now in
    leaf_fail s t _ 2 _ c.args.steps.now c.is_at_anchor.new.steps (captures t.marks.items) (run t.frames.items c.args.current.now.rest s) (sym c.is_at_anchor.ensures.met ∙ c.if-is_at_anchor.false) c.is_at_anchor.ensures.cost
