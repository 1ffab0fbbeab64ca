use Rattle.sre_code.proofs.CompleteLemmas.{what_is_spelled_is_read}
use Rattle.sre_code.proofs.laws.one_tree_for_one_code.Goals as goal

pub returns : goal.returns
returns c = λ words groups t u h k. cc (what_is_spelled_is_read groups words t h, what_is_spelled_is_read groups words u k)
