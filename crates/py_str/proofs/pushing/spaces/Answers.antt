use Rattle.std.proofs.Common.{refl}
use Rattle.py_str.proofs.pushing.spaces.Goals as goal

pub returns : goal.returns
returns c = refl
