use Rattle.py_int.proofs.DigitLemmas.{digits_are_runs}
use Rattle.py_int.proofs.laws.digits_are_runs.Goals as goal

pub returns : goal.returns
returns c = digits_are_runs
