use Rattle.py_int.proofs.NearestLemmas.{rounding_is_nearest}
use Rattle.py_int.proofs.laws.rounding_is_nearest.Goals as goal

pub returns : goal.returns
returns c = rounding_is_nearest
