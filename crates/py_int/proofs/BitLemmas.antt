-- A number has its bits alone.
use Rattle.std.proofs.Common.{◌≡◌, ℕ, zero, suc, ◌+◌, ◌^◌, ◌<◌, eqb, ℤ, pos, negsuc, refl, ap, sym, arith, pow-suc}
use Rattle.std.specs.Int.{bit_at}
use Rattle.std.proofs.Math.Nat.{pow-zero}
use Rattle.std.proofs.lemmas.Nat.Bits.{bit_at_above, bit_at-lt, same_from_bits}
use Rattle.py_int.specs.Bits.{bit}

below_power : (n : ℕ) → n < 2 ^ n
below_power zero = omega (arith, pow-zero 2)
below_power (suc n) = omega (arith, below_power n, pow-suc 2 n)

same_by_ones : (x y : ℕ) → x < 2 → y < 2 → eqb x 1 ≡ eqb y 1 → x ≡ y
same_by_ones zero zero h l e = refl
same_by_ones zero (suc zero) h l e = absurd (cc)
same_by_ones (suc zero) zero h l e = absurd (cc)
same_by_ones (suc zero) (suc zero) h l e = refl
same_by_ones (suc (suc x)) y h l e = absurd (omega arith)
same_by_ones x (suc (suc y)) h l e = absurd (omega arith)

same_by_zeros : (x y : ℕ) → x < 2 → y < 2 → eqb x 0 ≡ eqb y 0 → x ≡ y
same_by_zeros zero zero h l e = refl
same_by_zeros zero (suc zero) h l e = absurd (cc)
same_by_zeros (suc zero) zero h l e = absurd (cc)
same_by_zeros (suc zero) (suc zero) h l e = refl
same_by_zeros (suc (suc x)) y h l e = absurd (omega arith)
same_by_zeros x (suc (suc y)) h l e = absurd (omega arith)

-- far up the bits are the sign's
far_apart : (m n : ℕ) → bit (pos m) (m + n) ≡ bit (negsuc n) (m + n) → ⊥
far_apart m n e =
    let x : bit_at m (m + n) ≡ 0 = bit_at_above m m (m + n) (below_power m) (omega arith) in
    let y : bit_at n (m + n) ≡ 0 = bit_at_above n n (m + n) (below_power n) (omega arith) in
    let f : eqb (bit_at m (m + n)) 1 ≡ eqb (bit_at n (m + n)) 0 = e in
    let g : eqb 0 1 ≡ eqb 0 0 = rw (x, y) at f in
    cc

pub by_bits : (a b : ℤ) → ((k : ℕ) → bit a k ≡ bit b k) → a ≡ b
by_bits (pos m) (pos n) h = ap pos (same_from_bits m n (λ k. same_by_ones (bit_at m k) (bit_at n k) (bit_at-lt m k) (bit_at-lt n k) (h k)))
by_bits (negsuc m) (negsuc n) h = ap negsuc (same_from_bits m n (λ k. same_by_zeros (bit_at m k) (bit_at n k) (bit_at-lt m k) (bit_at-lt n k) (h k)))
by_bits (pos m) (negsuc n) h = absurd (far_apart m n (h (m + n)))
by_bits (negsuc m) (pos n) h = absurd (far_apart n m (sym (h (n + m))))
