-- The bytes of a number spell it.
use Rattle.std.proofs.Common.{◌≡◌, ℕ, zero, suc, ◌+◌, ◌*◌, ◌/◌, ◌^◌, ◌<◌, ◌≤◌, Bool, true, false, List, [], ◌∷◌, ◌++◌, length, reverse, ℤ, pos, negsuc, refl, ap, ◌∙◌, arith, pow-suc}
use Rattle.std.specs.Int.Digits.{number_from_digits}
use Rattle.std.proofs.Math.Nat.{pow-zero, div-add-mod}
use Rattle.std.proofs.lemmas.Int.Digits.{number_push}
use Rattle.std.proofs.lemmas.List.{length-reverse, reverse-append}
use Rattle.std.proofs.lemmas.Bool.{ltb-true, leb-true, false≢true}
use Rattle.py_int.specs.declared.bytes.ArgByteOrder.{ArgByteOrder}
use Rattle.py_int.specs.declared.bytes.ArgByteOrder.TheVariants.{Big, Little}
use Rattle.py_int.specs.Divide.{floor_of}
use Rattle.py_int.specs.Bytes.{in_order, number_of, bytes_in, low_bytes, low_byte, holds}
use Rattle.py_int.proofs.ByteDigitLemmas.{high_spells, low_spells}

length_low : (k : ℕ) (z : ℤ) → length (low_bytes k z) ≡ k
length_low zero z = refl
length_low (suc k) z = ap suc (length_low k (floor_of z 256))

reverse_first : (b : ℕ) (bs : List ℕ) → reverse (b ∷ bs) ≡ reverse bs ++ b ∷ []
reverse_first b bs = reverse-append (b ∷ []) bs

push_low : (k : ℕ) (z : ℤ) → number_from_digits 256 (reverse (low_bytes (suc k) z)) ≡ number_from_digits 256 (reverse (low_bytes k (floor_of z 256))) * 256 + low_byte z
push_low k z = ap (number_from_digits 256) (reverse_first (low_byte z) (low_bytes k (floor_of z 256))) ∙ number_push 256 (reverse (low_bytes k (floor_of z 256))) (low_byte z)

back : (k n : ℕ) → n < 256 ^ k → number_from_digits 256 (reverse (low_bytes k (pos n))) ≡ n
back zero n h = let p : 256 ^ 0 ≡ 1 = pow-zero 256 in omega arith
back (suc k) n h =
    let p : 256 ^ suc k ≡ 256 ^ k * 256 = pow-suc 256 k in
    omega (arith, push_low k (pos n), back k (n / 256) (omega arith))

back_neg : (k n : ℕ) → n < 256 ^ k → number_from_digits 256 (reverse (low_bytes k (negsuc n))) + n + 1 ≡ 256 ^ k
back_neg zero n h = let p : 256 ^ 0 ≡ 1 = pow-zero 256 in omega arith
back_neg (suc k) n h =
    let p : 256 ^ suc k ≡ 256 ^ k * 256 = pow-suc 256 k in
    omega (arith, push_low k (negsuc n), back_neg k (n / 256) (omega arith), div-add-mod n 256)

spelled : (signed : Bool) (k : ℕ) (z : ℤ) → holds signed k z ≡ true → number_of signed (reverse (low_bytes k z)) ≡ z
spelled false k (pos n) h = ap pos (back k n (ltb-true n (256 ^ k) h))
spelled false k (negsuc n) h = absurd (false≢true h)
spelled true k (pos n) h =
    let l : 2 * n < 256 ^ k = ltb-true (2 * n) (256 ^ k) h in
    let e = back k n (omega arith) in
    rw (length-reverse (low_bytes k (pos n)), length_low k (pos n), e) (low_spells (256 ^ k) n l)
spelled true k (negsuc n) h =
    let l : 2 * suc n ≤ 256 ^ k = leb-true (2 * suc n) (256 ^ k) h in
    let e = back_neg k n (omega arith) in
    rw (length-reverse (low_bytes k (negsuc n)), length_low k (negsuc n)) (high_spells (256 ^ k) (number_from_digits 256 (reverse (low_bytes k (negsuc n)))) n (omega arith) (omega arith))

pub round_trip : (order : ArgByteOrder) (signed : Bool) (k : ℕ) (z : ℤ) → holds signed k z ≡ true → number_of signed (in_order order (bytes_in order k z)) ≡ z
round_trip Big signed k z h = spelled signed k z h
round_trip Little signed k z h = spelled signed k z h
