use Rattle.py_format.proofs.SilenceLemmas.{percent_silent}
use Rattle.py_format.proofs.laws.bare_values_ask_nothing.Goals as goal

pub returns : goal.returns
returns c = percent_silent
