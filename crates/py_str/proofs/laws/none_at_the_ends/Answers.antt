use Rattle.py_str.proofs.LawLemmas.{none_at_ends}
use Rattle.py_str.proofs.laws.none_at_the_ends.Goals as goal

pub returns : goal.returns
returns c = none_at_ends
