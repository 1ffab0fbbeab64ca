use Rattle.py_spec.proofs.LawLemmas.{apart}
use Rattle.py_spec.proofs.laws.literals_are_longest_runs.Goals as goal

pub returns : goal.returns
returns c = apart
