use Rattle.py_value.proofs.ErrorLemmas.{errors_named, item_errors, attr_errors}
use Rattle.py_value.proofs.laws.errors_are_named.Goals as goal

pub returns : goal.returns
returns c = record { values = λ p a b d e f g. errors_named p a b d e f g; texts = λ p a b d e f g. errors_named p a b d e f g; items = item_errors; attributes = attr_errors }
