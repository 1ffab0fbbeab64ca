-- An inverse, or a common divisor: Euclid's division finds the one or the other.
use Rattle.std.proofs.Common.{◌≡◌, ◌≢◌, ◌↔◌, ℕ, zero, suc, ◌+◌, ◌-◌, ◌*◌, ◌/◌, ◌%◌, ◌<◌, ◌≤◌, ℤ, pos, negsuc, unsigned_abs, Bool, true, false, not, ◌⊎◌, inl, inr, refl, sym, arith}
use Rattle.std.specs.Int.{IsGcd, ◌∣◌}
use Rattle.std.proofs.Math.Nat.{div-add-mod, dvd-mod_iff, dvd-add_iff_left, dvd-add_iff_right}
use Rattle.std.proofs.lemmas.Nat.{mod_below}
use Rattle.std.proofs.lemmas.Nat.Gcd.{dvd_of_mod-eq-zero, mod-eq-zero_of_dvd}
use Rattle.std.proofs.lemmas.Nat.{mul-mod_first}
use Rattle.py_int.specs.Power.{IsInverse}
use Rattle.py_int.specs.Residue.{residue}
use Rattle.py_int.proofs.DivideLemmas.{residue_below, nonzero-abs}
use Rattle.py_int.proofs.ResidueLemmas.{has_inverse, no_inverse}
use Rattle.py_int.proofs.EuclidLemmas.{State, start, step, common, none_by, found_odd, found_even}

data Found (m a : ℕ) : Type 0 where
  inverse : (i : ℕ) → (a * i) % m ≡ 1 % m → Found m a
  divisor : (g : ℕ) → 1 < g → g ∣ m → g ∣ a → Found m a

one_or_more : (b : ℕ) → 0 < b → (b ≡ 1) ⊎ (1 < b)
one_or_more zero h = absurd (omega arith)
one_or_more (suc zero) h = inl refl
one_or_more (suc (suc b)) h = inr (omega arith)

-- at the end
found : (m a b r o n : ℕ) (odd : Bool) → State m a b r o n odd → r ≡ 0 → Found m a
found m a b r o n true s e =
    elim (one_or_more b s.some) [
      | inl h ↦ inverse (o % m) (found_odd m a b r o n s h)
      | inr h ↦ (let d : IsGcd m a b = common m a b r o n true s e in divisor b h d.0 d.1)
    ]
found m a b r o n false s e =
    elim (one_or_more b s.some) [
      | inl h ↦ inverse ((m - o) % m) (found_even m a b r o n s h)
      | inr h ↦ (let d : IsGcd m a b = common m a b r o n false s e in divisor b h d.0 d.1)
    ]

-- each step leaves less
finds : (k m a b r o n : ℕ) (odd : Bool) → State m a b r o n odd → r ≤ k → Found m a
finds zero m a b r o n odd s h = found m a b r o n odd s (omega arith)
finds (suc k) m a b zero o n odd s h = found m a b zero o n odd s refl
finds (suc k) m a b (suc r) o n odd s h =
    let some : 0 < suc r = omega arith in
    let less : b - b / suc r * suc r ≤ k = omega (arith, div-add-mod b (suc r), mod_below b (suc r) some) in
    finds k m a (suc r) (b - b / suc r * suc r) n (o + b / suc r * n) (not odd) (step m a b (suc r) o n odd s some) less

-- ---- divisors of a number and of its residue

divides_times : (g m x : ℕ) → g ∣ m → g ∣ m * x
divides_times g m x d =
    let e : m * x % g ≡ (m % g) * x % g = sym (mul-mod_first m x g) in
    let f : (m % g) * x % g ≡ 0 = rw (mod-eq-zero_of_dvd g d) (let z : 0 * x ≡ 0 = omega arith in rw z (omega arith)) in
    dvd_of_mod-eq-zero g (omega arith)

residue_and_number : (a m : ℕ) → 0 < m → (m - 1 - a % m) + suc a ≡ m * suc (a / m)
residue_and_number a m p = omega (arith, div-add-mod a m, mod_below a m p)

divides_number : (g : ℕ) (z : ℤ) (m : ℕ) → 0 < m → g ∣ m → g ∣ residue z m → g ∣ unsigned_abs z
divides_number g (pos a) m p d e = (dvd-mod_iff g d).0 e
divides_number g (negsuc a) m p d e =
    let w : g ∣ (m - 1 - a % m) + suc a = rw (residue_and_number a m p) (divides_times g m (suc (a / m)) d) in
    (dvd-add_iff_right g e).1 w

divides_residue : (g : ℕ) (z : ℤ) (m : ℕ) → 0 < m → g ∣ m → g ∣ unsigned_abs z → g ∣ residue z m
divides_residue g (pos a) m p d e = (dvd-mod_iff g d).1 e
divides_residue g (negsuc a) m p d e =
    let w : g ∣ (m - 1 - a % m) + suc a = rw (residue_and_number a m p) (divides_times g m (suc (a / m)) d) in
    (dvd-add_iff_left g e).1 w

-- ---- the law

divisor_of_both : (m a : ℤ) → m ≢ pos 0 → ((i : ℤ) → ¬ IsInverse m a i) → (d : ℕ) × (1 < d) × (d ∣ unsigned_abs m) × (d ∣ unsigned_abs a)
divisor_of_both m a n nowhere =
    let size = unsigned_abs m in
    let p : 0 < unsigned_abs m = nonzero-abs m n in
    let s = start (unsigned_abs m) (residue a (unsigned_abs m)) (residue_below a (unsigned_abs m) p) in
    elim (finds (residue a (unsigned_abs m)) (unsigned_abs m) (residue a (unsigned_abs m)) (unsigned_abs m) (residue a (unsigned_abs m)) 0 1 false s (omega arith)) [
      | inverse i e ↦ absurd (has_inverse a m i n e nowhere)
      | divisor g l x y ↦ (g, l, x, divides_number g a (unsigned_abs m) p x y)
    ]

none_of_divisor : (m a : ℤ) → m ≢ pos 0 → ((d : ℕ) × (1 < d) × (d ∣ unsigned_abs m) × (d ∣ unsigned_abs a)) → (i : ℤ) → ¬ IsInverse m a i
none_of_divisor m a n d =
    let p : 0 < unsigned_abs m = nonzero-abs m n in
    let y : d.0 ∣ residue a (unsigned_abs m) = divides_residue d.0 a (unsigned_abs m) p d.2 d.3 in
    no_inverse a m n (none_by (unsigned_abs m) (residue a (unsigned_abs m)) d.0 d.2 y d.1 (residue_below a (unsigned_abs m) p))

pub no_inverse_is_divisor : (m a : ℤ) → m ≢ pos 0 → ((i : ℤ) → ¬ IsInverse m a i) ↔ ((d : ℕ) × (1 < d) × (d ∣ unsigned_abs m) × (d ∣ unsigned_abs a))
no_inverse_is_divisor m a n = (divisor_of_both m a n, none_of_divisor m a n)
