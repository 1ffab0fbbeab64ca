use Rattle.re_tree.proofs.ShiftLemmas.{one_tree}
use Rattle.re_tree.proofs.laws.one_tree_for_tokens.Goals as goal

pub returns : goal.returns
returns c = one_tree
