-- Shifts by more than a machine's digits.
use Rattle.std.proofs.Common.{◌≡◌, ◌≢◌, ℕ, zero, suc, ◌+◌, ◌*◌, ◌/◌, ◌^◌, ◌<◌, ◌≤◌, true, ℤ, pos, negsuc, ◌<ℤ◌, unsigned_abs, Err, FitsSigned, of_z, refl, ap, sym, ◌∙◌, zero-add, arith}
use Rattle.std.proofs.Math.Nat.{pow-le-pow_right}
use Rattle.std.specs.Int.{w128}
use Rattle.std.proofs.lemmas.Int.{ints}
use Rattle.std.proofs.lemmas.Nat.{div-mul-add}
use Rattle.std.proofs.Math.Nat.{zero-mul}
use Rattle.std.proofs.lemmas.Bool.Decides.{nat_tests}
use Rattle.py_base.specs.declared.error.PyError.TheVariants.{IntTooWide}
use Rattle.py_int.specs.Number.{wide, Carries}
use Rattle.py_int.specs.Shift.{shifted_left, shifted_right}

pub power_least : (k : ℕ) → 128 ≤ k → 2 ^ 128 ≤ 2 ^ k
power_least k h = pow-le-pow_right (omega arith) h

div_zero : (n m : ℕ) → n < m → n / m ≡ 0
div_zero n m h = ap (λ v. v / m) (sym (zero-add n)) ∙ ap (λ v. v / m) (ap (λ v. v + n) (sym (zero-mul m))) ∙ div-mul-add 0 m n h

none_left : (n k : ℕ) → n < 2 ^ 127 → 127 ≤ k → n / 2 ^ k ≡ 0
none_left n k f h = div_zero n (2 ^ k) (omega (arith, pow-le-pow_right {n = 2} (omega arith) h))

-- a number that is not 0 is too wide 128 places up
pub wide_up : (z : ℤ) (k : ℕ) → z ≢ pos 0 → 128 ≤ k → wide (shifted_left z k) ≡ true
wide_up (pos zero) k n h = absurd (n refl)
wide_up (pos (suc a)) k n h =
    let e = power_least k h in
    let m : 2 ^ k ≤ suc a * 2 ^ k = omega arith in
    grind (arith, nat_tests)
wide_up (negsuc a) k n h =
    let e = power_least k h in
    let m : 2 ^ k ≤ suc a * 2 ^ k = omega arith in
    grind (arith, ints, nat_tests)

-- and so it is 127 places up, but for -1
pub wide_at_127 : (z : ℤ) → z ≢ pos 0 → z ≢ negsuc 0 → wide (shifted_left z 127) ≡ true
wide_at_127 (pos zero) n m = absurd (n refl)
wide_at_127 (pos (suc a)) n m = grind (arith, ints, nat_tests)
wide_at_127 (negsuc zero) n m = absurd (m refl)
wide_at_127 (negsuc (suc a)) n m = grind (arith, ints, nat_tests)

pub refused_up : (z b : ℤ) → of_z w128 z ≢ 0 → pos 127 <ℤ b → Carries (shifted_left z (unsigned_abs b)) (Err IntTooWide)
refused_up z (pos b) n h = rw (wide_up z b (λ e. n (ap (of_z w128) e)) (omega (arith, ints))) refl
refused_up z (negsuc b) n h = absurd (omega (arith, ints))

pub refused_at_127 : (z b : ℤ) → of_z w128 z ≢ 0 → z ≢ negsuc 0 → b ≡ pos 127 → Carries (shifted_left z (unsigned_abs b)) (Err IntTooWide)
refused_at_127 z b n m h = rw h (rw (wide_at_127 z (λ e. n (ap (of_z w128) e)) m) refl)

-- from 127 places down on only the sign is left
pub all_out : (z : ℤ) (k : ℕ) → FitsSigned w128 z → 127 ≤ k → shifted_right z k ≡ shifted_right z 127
all_out (pos n) k f h = ap pos (none_left n k f.sfits h ∙ sym (none_left n 127 f.sfits (omega arith)))
all_out (negsuc n) k f h = ap negsuc (none_left n k f.sfits h ∙ sym (none_left n 127 f.sfits (omega arith)))

pub all_out_by : (z b : ℤ) → FitsSigned w128 z → pos 127 <ℤ b → shifted_right z 127 ≡ shifted_right z (unsigned_abs b)
all_out_by z (pos b) f h = sym (all_out z b f (omega (arith, ints)))
all_out_by z (negsuc b) f h = absurd (omega (arith, ints))
