use Rattle.py_spec.proofs.WidthLemmas.{characters_filled}
use Rattle.py_spec.proofs.laws.characters_fill_the_width.Goals as goal

pub returns : goal.returns
returns c = characters_filled
