use Rattle.std.proofs.Common.{refl}
use Rattle.py_str.proofs.pushing.zeros.Goals as goal

pub returns : goal.returns
returns c = refl
