use Rattle.py_spec.proofs.LawLemmas.{full_literals}
use Rattle.py_spec.proofs.laws.no_literal_is_empty.Goals as goal

pub returns : goal.returns
returns c = full_literals
