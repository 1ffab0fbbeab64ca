use Rattle.py_str.proofs.LawLemmas.{paddings_fill}
use Rattle.py_str.proofs.laws.paddings_fill_the_width.Goals as goal

pub returns : goal.returns
returns c = paddings_fill
