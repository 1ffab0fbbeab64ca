use Rattle.py_value.proofs.PrintSilenceLemmas.{repr_of_silent, str_of_silent, ascii_of_silent}
use Rattle.py_value.proofs.laws.bare_values_print_alone.Goals as goal

pub returns : goal.returns
returns c = λ v h. (repr_of_silent v h, str_of_silent v h, ascii_of_silent v h)
