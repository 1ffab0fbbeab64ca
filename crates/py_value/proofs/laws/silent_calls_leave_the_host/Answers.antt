use Rattle.py_value.proofs.AskingLemmas.{leaves_alone}
use Rattle.py_value.proofs.laws.silent_calls_leave_the_host.Goals as goal

pub returns : goal.returns
returns c = record { values = λ a b d e f g. leaves_alone a b d e f g; texts = λ a b d e f g. leaves_alone a b d e f g }
