use Rattle.py_int.proofs.BitLemmas.{by_bits}
use Rattle.py_int.proofs.laws.numbers_are_their_bits.Goals as goal

pub returns : goal.returns
returns c = by_bits
