use Rattle.py_intern.proofs.ListLemmas.{keeps_texts}
use Rattle.py_intern.proofs.laws.handles_keep_their_texts.Goals as goal

pub returns : goal.returns
returns c = keeps_texts
