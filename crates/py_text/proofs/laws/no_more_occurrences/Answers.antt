use Rattle.py_text.proofs.LawLemmas.{no_more_occurrences}
use Rattle.py_text.proofs.laws.no_more_occurrences.Goals as goal

pub returns : goal.returns
returns c = no_more_occurrences
