use Rattle.py_text.proofs.LimitLemmas.{limit_bounds}
use Rattle.py_text.proofs.laws.limit_bounds_the_pieces.Goals as goal

pub returns : goal.returns
returns c = limit_bounds
