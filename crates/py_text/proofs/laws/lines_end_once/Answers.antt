use Rattle.py_text.proofs.LineEndLemmas.{lines_end_once}
use Rattle.py_text.proofs.laws.lines_end_once.Goals as goal

pub returns : goal.returns
returns c = lines_end_once
