use Rattle.py_int.proofs.OnePairLemmas.{one_pair}
use Rattle.py_int.proofs.laws.division_is_one_pair.Goals as goal

pub returns : goal.returns
returns c = one_pair
