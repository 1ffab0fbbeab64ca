use Rattle.py_spec.proofs.AscendLemmas.{ascend}
use Rattle.py_spec.proofs.laws.places_ascend.Goals as goal

pub returns : goal.returns
returns c = ascend
