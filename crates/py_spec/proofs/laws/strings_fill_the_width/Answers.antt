use Rattle.py_spec.proofs.WidthLemmas.{strings_filled}
use Rattle.py_spec.proofs.laws.strings_fill_the_width.Goals as goal

pub returns : goal.returns
returns c = strings_filled
