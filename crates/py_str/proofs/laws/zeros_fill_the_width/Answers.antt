use Rattle.py_str.proofs.LawLemmas.{zeros_fill}
use Rattle.py_str.proofs.laws.zeros_fill_the_width.Goals as goal

pub returns : goal.returns
returns c = zeros_fill
