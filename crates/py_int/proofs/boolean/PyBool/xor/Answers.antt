use Rattle.std.proofs.Common.{◌≡◌, Bool, true, false, not, refl}
use Rattle.std.specs.Bool.{beq}
use Rattle.std.proofs.Math.Bool.{xor}
use Rattle.py_int.proofs.boolean.PyBool.xor.Goals as goal

-- the two are not equal
xor_is : (a b : Bool) → not (beq a b) ≡ xor a b
unfolding xor
xor_is true true = refl
xor_is true false = refl
xor_is false true = refl
xor_is false false = refl

pub returns : goal.returns
returns c = let e = xor_is c.self.inside.value c.other.inside.value in cc
