use Rattle.py_format.proofs.ErrorLemmas.{all_named}
use Rattle.py_format.proofs.laws.errors_are_named.Goals as goal

pub returns : goal.returns
returns c = all_named
