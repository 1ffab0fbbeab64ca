use Rattle.py_intern.proofs.ListLemmas.{equal_as_texts}
use Rattle.py_intern.proofs.laws.handles_equal_as_texts.Goals as goal

pub returns : goal.returns
returns c = equal_as_texts
