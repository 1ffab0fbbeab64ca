use Rattle.py_text.proofs.SpacedLemmas.{whitespace_pieces_from_right}
use Rattle.py_text.proofs.laws.whitespace_pieces_from_right_are_the_text.Goals as goal

pub returns : goal.returns
returns c = whitespace_pieces_from_right
