-- Bits of two's complement, in 128 bits and for ever.
use Rattle.std.proofs.Common.{◌≡◌, ℕ, zero, suc, ◌+◌, ◌-◌, ◌%◌, ◌^◌, ◌<◌, ◌≤◌, min, max, Bool, ◌&&◌, ◌||◌, eqb, ℤ, pos, negsuc, FitsSigned, to_z, of_z, inl, inr, refl, ap, sym, ◌∙◌, arith}
use Rattle.std.specs.Int.{bit_at, bit_not, w128}
use Rattle.std.specs.Prelude.{bit_and, bit_or, bit_xor}
use Rattle.std.specs.Int.Bits.{and_lt}
use Rattle.std.proofs.Math.Facts.{sfits_to_z}
use Rattle.std.proofs.lemmas.Int.{of_z-to_z}
use Rattle.std.proofs.lemmas.Nat.Bits.{bit_at_not, bit_at_above, bit_at-lt, bit_at_and, bit_at_or, bit_at_xor}
use Rattle.std.proofs.lemmas.Nat.{or_lt, xor_lt}
use Rattle.std.proofs.lemmas.Bool.{cases_lt}
use Rattle.std.proofs.lemmas.Bool.Decides.{nat_tests}
use Rattle.py_int.specs.Bits.{bit}
use Rattle.std.proofs.Math.Bool.{xor}

complement_digit : (x : ℕ) → eqb x 0 ≡ eqb (1 - x) 1
complement_digit zero = refl
complement_digit (suc x) = grind (arith, nat_tests)

-- the first 128 bits of a number are those of the machine
pub bit_low : (z : ℤ) (k : ℕ) → FitsSigned w128 z → k < 128 → bit z k ≡ eqb (bit_at (of_z w128 z) k) 1
bit_low (pos n) k f h = refl
bit_low (negsuc n) k f h =
    let g : n < 2 ^ 127 = f.sfits in
    let e : 2 ^ 128 - suc n ≡ bit_not w128 n = omega arith in
    complement_digit (bit_at n k) ∙ ap (λ d. eqb d 1) (sym (bit_at_not w128 n k (omega arith) h)) ∙ ap (λ u. eqb (bit_at u k) 1) (sym e)

-- and all bits from the last on are that one
pub bit_high : (z : ℤ) (k : ℕ) → FitsSigned w128 z → 127 ≤ k → bit z k ≡ bit z 127
bit_high (pos n) k f h = ap (λ d. eqb d 1) (bit_at_above n 127 k f.sfits h ∙ sym (bit_at_above n 127 127 f.sfits (omega arith)))
bit_high (negsuc n) k f h = ap (λ d. eqb d 0) (bit_at_above n 127 k f.sfits h ∙ sym (bit_at_above n 127 127 f.sfits (omega arith)))

of_z_below : (z : ℤ) → FitsSigned w128 z → of_z w128 z < 2 ^ 128
of_z_below (pos n) f = let g : n < 2 ^ 127 = f.sfits in omega arith
of_z_below (negsuc n) f = omega arith

-- the bits of what the machine made from 128 bits
bit_made : (u k : ℕ) → u < 2 ^ 128 → k < 128 → bit (to_z w128 u) k ≡ eqb (bit_at u k) 1
bit_made u k h l = bit_low (to_z w128 u) k (sfits_to_z (record { fits = h })) l ∙ ap (λ v. eqb (bit_at v k) 1) (of_z-to_z w128 u h)

-- what holds of the bits of the machine holds of all
all_bits : (a b r : ℤ) (f : Bool → Bool → Bool) → FitsSigned w128 a → FitsSigned w128 b → FitsSigned w128 r → ((k : ℕ) → k < 128 → bit r k ≡ f (bit a k) (bit b k)) → (k : ℕ) → bit r k ≡ f (bit a k) (bit b k)
all_bits a b r f fa fb fr low k =
    elim (cases_lt k 128) [
      | inl h ↦ low k h
      | inr h ↦ (
          let n : 127 ≤ k = omega arith in
          bit_high r k fr n ∙ low 127 (omega arith) ∙ ap (λ x. f x (bit b 127)) (sym (bit_high a k fa n)) ∙ ap (λ y. f (bit a k) y) (sym (bit_high b k fb n))
          )
    ]

data IsDigit (x : ℕ) : Type 0 where
  none : x ≡ 0 → IsDigit x
  one : x ≡ 1 → IsDigit x

digit_of : (x : ℕ) → x < 2 → IsDigit x
digit_of zero h = none refl
digit_of (suc zero) h = one refl
digit_of (suc (suc x)) h = absurd (omega arith)

least_digit : (x y : ℕ) → IsDigit x → IsDigit y → eqb (min x y) 1 ≡ eqb x 1 && eqb y 1
least_digit x y (none i) (none j) = rw (i, j) refl
least_digit x y (none i) (one j) = rw (i, j) refl
least_digit x y (one i) (none j) = rw (i, j) refl
least_digit x y (one i) (one j) = rw (i, j) refl

greatest_digit : (x y : ℕ) → IsDigit x → IsDigit y → eqb (max x y) 1 ≡ eqb x 1 || eqb y 1
greatest_digit x y (none i) (none j) = rw (i, j) refl
greatest_digit x y (none i) (one j) = rw (i, j) refl
greatest_digit x y (one i) (none j) = rw (i, j) refl
greatest_digit x y (one i) (one j) = rw (i, j) refl

odd_digit : (x y : ℕ) → IsDigit x → IsDigit y → eqb ((x + y) % 2) 1 ≡ xor (eqb x 1) (eqb y 1)
unfolding xor
odd_digit x y (none i) (none j) = rw (i, j) refl
odd_digit x y (none i) (one j) = rw (i, j) refl
odd_digit x y (one i) (none j) = rw (i, j) refl
odd_digit x y (one i) (one j) = rw (i, j) refl

-- a number of 128 bits, made from those of two numbers
by_bits : (a b : ℤ) (u : ℕ) (f : Bool → Bool → Bool) → FitsSigned w128 a → FitsSigned w128 b → u < 2 ^ 128 → ((k : ℕ) → eqb (bit_at u k) 1 ≡ f (eqb (bit_at (of_z w128 a) k) 1) (eqb (bit_at (of_z w128 b) k) 1)) → (k : ℕ) → bit (to_z w128 u) k ≡ f (bit a k) (bit b k)
by_bits a b u f fa fb h at =
    all_bits a b (to_z w128 u) f fa fb (sfits_to_z (record { fits = h })) (λ k l. bit_made u k h l ∙ at k ∙ ap (λ x. f x (eqb (bit_at (of_z w128 b) k) 1)) (sym (bit_low a k fa l)) ∙ ap (λ y. f (bit a k) y) (sym (bit_low b k fb l)))

digit_at : (n k : ℕ) → IsDigit (bit_at n k)
digit_at n k = digit_of (bit_at n k) (bit_at-lt n k)

pub and_bits : (a b : ℤ) → FitsSigned w128 a → FitsSigned w128 b → (k : ℕ) → bit (to_z w128 (bit_and (of_z w128 a) (of_z w128 b))) k ≡ bit a k && bit b k
and_bits a b fa fb =
    by_bits a b (bit_and (of_z w128 a) (of_z w128 b)) ◌&&◌ fa fb (and_lt 128 (of_z w128 a) (of_z w128 b) (of_z_below a fa) (of_z_below b fb)) (λ k. ap (λ v. eqb v 1) (bit_at_and (of_z w128 a) (of_z w128 b) k) ∙ least_digit (bit_at (of_z w128 a) k) (bit_at (of_z w128 b) k) (digit_at (of_z w128 a) k) (digit_at (of_z w128 b) k))

pub or_bits : (a b : ℤ) → FitsSigned w128 a → FitsSigned w128 b → (k : ℕ) → bit (to_z w128 (bit_or (of_z w128 a) (of_z w128 b))) k ≡ bit a k || bit b k
or_bits a b fa fb =
    by_bits a b (bit_or (of_z w128 a) (of_z w128 b)) ◌||◌ fa fb (or_lt 128 (of_z w128 a) (of_z w128 b) (of_z_below a fa) (of_z_below b fb)) (λ k. ap (λ v. eqb v 1) (bit_at_or (of_z w128 a) (of_z w128 b) k) ∙ greatest_digit (bit_at (of_z w128 a) k) (bit_at (of_z w128 b) k) (digit_at (of_z w128 a) k) (digit_at (of_z w128 b) k))

pub xor_bits : (a b : ℤ) → FitsSigned w128 a → FitsSigned w128 b → (k : ℕ) → bit (to_z w128 (bit_xor (of_z w128 a) (of_z w128 b))) k ≡ xor (bit a k) (bit b k)
xor_bits a b fa fb =
    by_bits a b (bit_xor (of_z w128 a) (of_z w128 b)) xor fa fb (xor_lt 128 (of_z w128 a) (of_z w128 b) (of_z_below a fa) (of_z_below b fb)) (λ k. ap (λ v. eqb v 1) (bit_at_xor (of_z w128 a) (of_z w128 b) k) ∙ odd_digit (bit_at (of_z w128 a) k) (bit_at (of_z w128 b) k) (digit_at (of_z w128 a) k) (digit_at (of_z w128 b) k))
