use Rattle.py_value.proofs.PrintErrorLemmas.{print_errors}
use Rattle.py_value.proofs.laws.print_errors_are_named.Goals as goal

pub returns : goal.returns
returns c = print_errors
