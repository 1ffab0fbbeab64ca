use Rattle.py_spec.proofs.WidthLemmas.{numbers_filled}
use Rattle.py_spec.proofs.laws.numbers_fill_the_width.Goals as goal

pub returns : goal.returns
returns c = numbers_filled
