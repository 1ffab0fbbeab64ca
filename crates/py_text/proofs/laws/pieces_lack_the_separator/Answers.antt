use Rattle.py_text.proofs.LackLemmas.{pieces_lack}
use Rattle.py_text.proofs.laws.pieces_lack_the_separator.Goals as goal

pub returns : goal.returns
returns c = pieces_lack
