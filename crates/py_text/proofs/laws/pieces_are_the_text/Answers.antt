use Rattle.py_text.proofs.LawLemmas.{pieces_are}
use Rattle.py_text.proofs.laws.pieces_are_the_text.Goals as goal

pub returns : goal.returns
returns c = pieces_are
