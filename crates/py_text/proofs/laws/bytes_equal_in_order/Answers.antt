use Rattle.py_text.proofs.TextLemmas.{equal_in_order}
use Rattle.py_text.proofs.laws.bytes_equal_in_order.Goals as goal

pub returns : goal.returns
returns c = equal_in_order
