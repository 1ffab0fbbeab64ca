use Rattle.py_text.proofs.TextLemmas.{ordered_by_difference}
use Rattle.py_text.proofs.laws.texts_ordered_by_first_difference.Goals as goal

pub returns : goal.returns
returns c = ordered_by_difference
