use Rattle.py_text.proofs.LawLemmas.{lines_are}
use Rattle.py_text.proofs.laws.lines_are_the_text.Goals as goal

pub returns : goal.returns
returns c = lines_are
