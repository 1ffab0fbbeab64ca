use Rattle.re_tree.proofs.TextLemmas.{one_text}
use Rattle.re_tree.proofs.laws.one_tree_for_one_text.Goals as goal

pub returns : goal.returns
returns c = one_text
