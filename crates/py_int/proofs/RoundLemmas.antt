-- Rounding where nothing is left.
use Rattle.std.proofs.Common.{◌≡◌, ℕ, ◌*◌, ◌^◌, ◌<◌, ◌≤◌, false, nat_lt, eqb, ℤ, pos, negsuc, unsigned_abs, FitsSigned, Ok, refl, arith}
use Rattle.std.specs.Int.{w128}
use Rattle.std.proofs.Math.Nat.{div-eq_of_lt, mod-eq_of_lt, pow-le-pow_right}
use Rattle.std.proofs.lemmas.Bool.Decides.{nat_tests}
use Rattle.py_int.specs.Number.{Carries}
use Rattle.py_int.specs.Round.{nearest, rounded, with_sign_of}

small_nearest : (n u : ℕ) → 2 * n < u → nearest n u ≡ 0
small_nearest n u h =
    let l : n < u = omega arith in
    let a : nat_lt u (2 * n) ≡ false = grind (arith, nat_tests) in
    let b : eqb (2 * n) u ≡ false = grind (arith, nat_tests) in
    rw (div-eq_of_lt l, mod-eq_of_lt l, a, b) refl

no_size : (z : ℤ) (n : ℕ) → n ≡ 0 → with_sign_of z n ≡ pos 0
no_size (pos m) n e = rw e refl
no_size (negsuc m) n e = rw e refl

abs_small : (z : ℤ) → FitsSigned w128 z → unsigned_abs z ≤ 2 ^ 127
abs_small (pos n) f = let g : n < 2 ^ 127 = f.sfits in omega arith
abs_small (negsuc n) f = let g : n < 2 ^ 127 = f.sfits in omega arith

-- past 38 digits
pub rounds_to_zero : (z : ℤ) (d : ℕ) → FitsSigned w128 z → 38 < d → Carries (rounded z d) (Ok (pos 0))
rounds_to_zero z d f h =
    let p : 10 ^ 39 ≤ 10 ^ d = pow-le-pow_right (omega arith) h in
    let a : nearest (unsigned_abs z) (10 ^ d) ≡ 0 = small_nearest (unsigned_abs z) (10 ^ d) (omega (arith, abs_small z f)) in
    rw (no_size z (10 ^ d * nearest (unsigned_abs z) (10 ^ d)) (rw a (omega arith))) refl

pub tens_below : (d : ℕ) → d ≤ 38 → 10 ^ d ≤ 10 ^ 38
tens_below d h = pow-le-pow_right (omega arith) h
