use Rattle.std.proofs.Common.{◌≡◌, ◌<◌, ◌<ℤ◌, pos, unsigned_abs, FitsSigned, ap, ◌∙◌, arith}
use Rattle.std.specs.Int.{int_pow, w128}
use Rattle.std.proofs.lemmas.Int.{ints, to_z-of_z}
use Rattle.py_int.proofs.PowerLemmas.{refused_power, carried_by, power_is}
use Rattle.py_int.proofs.number.PyInt.rpow.Goals as goal

pub returns-then-exp-gt-VALUE_BITS-clause-value : goal.returns-then-exp-gt-VALUE_BITS-clause-value
returns-then-exp-gt-VALUE_BITS-clause-value c = λ h.
    let f : FitsSigned w128 c.as_i128-value.result = record { sfits = c.as_i128-value.type_inv } in
    let s : c.unsigned_abs.result ≡ unsigned_abs c.as_i128-value.result = c.unsigned_abs.ensures.value ∙ ap unsigned_abs (to_z-of_z w128 c.as_i128-value.result f) in
    let big : 1 < unsigned_abs c.as_i128-value.result = omega arith in
    let far : pos 127 <ℤ c.as_i128-exp.result = omega (arith, ints) in
    rw (← c.as_i128-value.ensures, ← c.as_i128-exp.ensures) (refused_power c.as_i128-value.result c.as_i128-exp.result big far)

pub returns-else-exp-gt-VALUE_BITS-clause-value : goal.returns-else-exp-gt-VALUE_BITS-clause-value
returns-else-exp-gt-VALUE_BITS-clause-value c = λ h.
    let v = c.as_i128-value.result in
    let e = c.as_i128-exp.result in
    let f : FitsSigned w128 v = record { sfits = c.as_i128-value.type_inv } in
    let g : FitsSigned w128 e = record { sfits = c.as_i128-exp.type_inv } in
    let s = simp (to_z-of_z w128 v f, to_z-of_z w128 e g) at c.checked_pow.ensures in
    rw (← c.as_i128-value.ensures, ← c.as_i128-exp.ensures, power_is v (unsigned_abs e)) (carried_by (int_pow v (unsigned_abs e)) c.checked_pow.result c.carry.result s c.carry.ensures)
