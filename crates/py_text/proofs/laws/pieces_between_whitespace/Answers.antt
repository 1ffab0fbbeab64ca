use Rattle.py_text.proofs.BetweenLemmas.{between_whitespace}
use Rattle.py_text.proofs.laws.pieces_between_whitespace.Goals as goal

pub returns : goal.returns
returns c = between_whitespace
