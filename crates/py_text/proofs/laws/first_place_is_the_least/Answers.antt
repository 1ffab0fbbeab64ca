use Rattle.py_text.proofs.LeastLemmas.{first_is_least}
use Rattle.py_text.proofs.laws.first_place_is_the_least.Goals as goal

pub returns : goal.returns
returns c = first_is_least
