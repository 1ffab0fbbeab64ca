use Rattle.py_text.proofs.LawLemmas.{pieces_from_right_are}
use Rattle.py_text.proofs.laws.pieces_from_right_are_the_text.Goals as goal

pub returns : goal.returns
returns c = pieces_from_right_are
