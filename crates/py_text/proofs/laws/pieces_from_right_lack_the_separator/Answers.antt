use Rattle.py_text.proofs.LackLemmas.{pieces_from_right_lack}
use Rattle.py_text.proofs.laws.pieces_from_right_lack_the_separator.Goals as goal

pub returns : goal.returns
returns c = pieces_from_right_lack
