use Rattle.py_text.proofs.LawLemmas.{no_more_pieces}
use Rattle.py_text.proofs.laws.no_more_whitespace_pieces.Goals as goal

pub returns : goal.returns
returns c = no_more_pieces
