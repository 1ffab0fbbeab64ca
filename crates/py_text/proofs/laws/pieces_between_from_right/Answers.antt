use Rattle.py_text.proofs.BetweenLemmas.{between_from_right}
use Rattle.py_text.proofs.laws.pieces_between_from_right.Goals as goal

pub returns : goal.returns
returns c = between_from_right
