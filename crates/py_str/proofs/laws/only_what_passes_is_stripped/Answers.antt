use Rattle.py_str.proofs.LawLemmas.{only_what_passes}
use Rattle.py_str.proofs.laws.only_what_passes_is_stripped.Goals as goal

pub returns : goal.returns
returns c = only_what_passes
