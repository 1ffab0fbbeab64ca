use Rattle.std.proofs.Common.{ap, sym, ◌∙◌}
use Rattle.sre_code.specs.PlainTree.{is_unit}
use Rattle.sre_code.proofs.ViewLemmas.{no_unit}
use Rattle.sre_code.proofs.tree.Tree.is_unit.Goals as goal

pub returns-in_default-2 : goal.returns-in_default-2
returns-in_default-2 c = sym (no_unit c.nodes.result.now c.in_default.len_at_least) ∙ ap is_unit c.nodes.ensures
