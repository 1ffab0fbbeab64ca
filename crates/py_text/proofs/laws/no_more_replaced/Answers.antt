use Rattle.py_text.proofs.LawLemmas.{no_more_replaced}
use Rattle.py_text.proofs.laws.no_more_replaced.Goals as goal

pub returns : goal.returns
returns c = no_more_replaced
