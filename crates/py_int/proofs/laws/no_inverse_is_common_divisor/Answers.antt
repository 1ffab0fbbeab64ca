use Rattle.py_int.proofs.InverseLemmas.{no_inverse_is_divisor}
use Rattle.py_int.proofs.laws.no_inverse_is_common_divisor.Goals as goal

pub returns : goal.returns
returns c = no_inverse_is_divisor
