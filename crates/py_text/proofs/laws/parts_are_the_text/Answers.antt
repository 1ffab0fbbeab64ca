use Rattle.py_text.proofs.LawLemmas.{parts_are}
use Rattle.py_text.proofs.laws.parts_are_the_text.Goals as goal

pub returns : goal.returns
returns c = parts_are
