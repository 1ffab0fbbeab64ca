use Rattle.py_text.proofs.LeastLemmas.{last_is_greatest}
use Rattle.py_text.proofs.laws.last_place_is_the_greatest.Goals as goal

pub returns : goal.returns
returns c = last_is_greatest
