-- How many binary digits a number has.
use Rattle.std.proofs.Common.{◌≡◌, ℕ, zero, suc, ◌-◌, ◌^◌, ◌<◌, ◌≤◌, inl, inr, lit<, arith}
use Rattle.std.specs.Int.Count.{count_leading_zeros, leading_of_zero}
use Rattle.std.proofs.Math.Nat.{pow-le-pow_right}
use Rattle.std.proofs.lemmas.Nat.{leading_top}
use Rattle.std.proofs.lemmas.Bool.{cases_lt}
use Rattle.py_int.specs.Bits.{IsBitLength}

at_least : (n j i : ℕ) → 2 ^ j ≤ n → n < 2 ^ i → suc j ≤ i
at_least n j i h l =
    elim (cases_lt j i) [
      | inl p ↦ omega arith
      | inr p ↦ absurd (omega (arith, pow-le-pow_right {n = 2} (omega arith) p))
    ]

pub length_by_zeros : (n k : ℕ) → n < 2 ^ 128 → k ≡ 128 - count_leading_zeros 128 n → IsBitLength n k
length_by_zeros zero k h e =
    let z : k ≡ 0 = omega (arith, leading_of_zero 128) in
    rw z (record { enough = lit< tt; least = λ j l. omega arith })
length_by_zeros (suc n) k h e =
    let t = leading_top 128 (suc n) (omega arith) h in
    let s : k ≡ suc (t.0) = omega arith in
    rw s (record { enough = t.3; least = λ i l. at_least (suc n) t.0 i t.2 l })
