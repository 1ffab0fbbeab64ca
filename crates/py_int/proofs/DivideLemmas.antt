-- Floors of quotients and what they leave.
use Rattle.std.proofs.Common.{◌≡◌, ◌≢◌, ℕ, zero, suc, ◌+◌, ◌-◌, ◌*◌, ◌/◌, ◌%◌, ◌<◌, ℤ, pos, negsuc, ◌-ℤ◌, ◌*ℤ◌, unsigned_abs, ◌≤ℤ◌, ◌<ℤ◌, inl, inr, eqb, true, false, neg_ℤ, refl, ap, sym, ◌∙◌, arith}
use Rattle.std.proofs.Math.Nat.{div-add-mod}
use Rattle.std.proofs.lemmas.Int.{ints}
use Rattle.std.proofs.lemmas.Nat.{mod_below, div-mul-add, mod-mul-add}
use Rattle.std.proofs.lemmas.Bool.{cases_lt}
use Rattle.std.proofs.lemmas.Bool.Decides.{nat_tests}
use Rattle.py_int.specs.Divide.{floor_of, floor_div, floor_mod, rounded_up, signs_differ}
use Rattle.py_int.specs.Residue.{residue, toward}

pub residue_below : (z : ℤ) (m : ℕ) → 0 < m → residue z m < m
residue_below (pos a) m h = mod_below a m h
residue_below (negsuc a) m h = omega arith

-- z is m times its floor, and the residue
pub floor_and_residue : (z : ℤ) (m : ℕ) → 0 < m → (z -ℤ pos m *ℤ floor_of z m) ≡ pos (residue z m)
floor_and_residue (pos a) m h = omega (arith, ints, div-add-mod a m)
floor_and_residue (negsuc a) m h = omega (arith, ints, div-add-mod a m, mod_below a m h)

pub floor_mod-pos : (z : ℤ) (m : ℕ) → 0 < m → floor_mod z (pos m) ≡ pos (residue z m)
floor_mod-pos z m h = floor_and_residue z m h

-- one more: the quotient goes up where the remainder starts again
pub data Step (a m : ℕ) : Type 0 where
  turns : suc a % m ≡ 0 → suc a / m ≡ suc (a / m) → suc (a % m) ≡ m → Step a m
  goes_on : suc a % m ≡ suc (a % m) → suc a / m ≡ a / m → suc (a % m) < m → Step a m

goes_on_by : (a m : ℕ) → suc (a % m) < m → Step a m
goes_on_by a m h =
    let e : suc a ≡ a / m * m + suc (a % m) = omega (arith, div-add-mod a m) in
    goes_on (ap (λ n. n % m) e ∙ mod-mul-add (a / m) m (suc (a % m)) h) (ap (λ n. n / m) e ∙ div-mul-add (a / m) m (suc (a % m)) h) h

turns_by : (a m : ℕ) → 0 < m → suc (a % m) ≡ m → Step a m
turns_by a m p h =
    let e : suc a ≡ suc (a / m) * m + 0 = omega (arith, div-add-mod a m) in
    turns (ap (λ n. n % m) e ∙ mod-mul-add (suc (a / m)) m 0 p) (ap (λ n. n / m) e ∙ div-mul-add (suc (a / m)) m 0 p) h

pub step_of : (a m : ℕ) → 0 < m → Step a m
step_of a m p =
    elim (cases_lt (suc (a % m)) m) [
      | inl h ↦ goes_on_by a m h
      | inr h ↦ turns_by a m p (omega (arith, mod_below a m p))
    ]

-- the residue of a number that is not negative, and of one that is
pub residue_of_pos : (z : ℤ) (m : ℕ) → pos 0 ≤ℤ z → unsigned_abs z % m ≡ residue z m
residue_of_pos (pos a) m h = refl
residue_of_pos (negsuc a) m h = absurd (omega (arith, ints))

pub residue_whole : (z : ℤ) (m : ℕ) → 0 < m → z <ℤ pos 0 → unsigned_abs z % m ≡ 0 → 0 ≡ residue z m
residue_whole (pos a) m p h e = absurd (omega (arith, ints))
residue_whole (negsuc a) m p h e =
    elim (step_of a m p) [ turns i j k ↦ omega arith | goes_on i j k ↦ omega arith ]

pub residue_rest : (z : ℤ) (m : ℕ) → 0 < m → z <ℤ pos 0 → unsigned_abs z % m ≢ 0 → m - unsigned_abs z % m ≡ residue z m
residue_rest (pos a) m p h e = absurd (omega (arith, ints))
residue_rest (negsuc a) m p h e =
    elim (step_of a m p) [ turns i j k ↦ absurd (e i) | goes_on i j k ↦ omega arith ]

pub toward_zero : (r b : ℕ) → r ≡ 0 → toward r (negsuc b) ≡ pos 0
toward_zero r b h = rw h refl

pub toward_more : (r b : ℕ) → 0 < r → toward r (negsuc b) ≡ negsuc (b - r)
toward_more r b h = let e : eqb r 0 ≡ false = grind (arith, nat_tests) in rw e refl

toward-neg : (z : ℤ) (b : ℕ) → floor_mod z (negsuc b) ≡ toward (residue z (suc b)) (negsuc b)
toward-neg (pos zero) b =
    let e : suc b * (0 / suc b) + 0 % suc b ≡ 0 = div-add-mod 0 (suc b) in
    let f : floor_mod (pos 0) (negsuc b) ≡ pos 0 = omega (arith, ints) in
    f ∙ sym (toward_zero (0 % suc b) b (omega arith))
toward-neg (pos (suc a)) b =
    let e : suc b * (a / suc b) + a % suc b ≡ a = div-add-mod a (suc b) in
    elim (step_of a (suc b) (omega arith)) [
      | turns i j k ↦ (
          let f : floor_mod (pos (suc a)) (negsuc b) ≡ pos 0 = omega (arith, ints) in
          f ∙ sym (toward_zero (suc a % suc b) b i)
          )
      | goes_on i j k ↦ (
          let f : floor_mod (pos (suc a)) (negsuc b) ≡ negsuc (b - suc a % suc b) = omega (arith, ints) in
          f ∙ sym (toward_more (suc a % suc b) b (omega arith))
          )
    ]
toward-neg (negsuc a) b =
    let f : suc b * (suc a / suc b) + suc a % suc b ≡ suc a = div-add-mod (suc a) (suc b) in
    elim (step_of a (suc b) (omega arith)) [
      | turns i j k ↦ (
          let g : floor_mod (negsuc a) (negsuc b) ≡ pos 0 = omega (arith, ints) in
          g ∙ sym (toward_zero (suc b - 1 - a % suc b) b (omega arith))
          )
      | goes_on i j k ↦ (
          let g : floor_mod (negsuc a) (negsuc b) ≡ negsuc (b - (suc b - 1 - a % suc b)) = omega (arith, ints) in
          g ∙ sym (toward_more (suc b - 1 - a % suc b) b (omega arith))
          )
    ]

nonzero-pos : (b : ℕ) → pos b ≢ pos 0 → 0 < b
nonzero-pos zero h = absurd (h refl)
nonzero-pos (suc b) h = omega arith

pub nonzero-abs : (b : ℤ) → b ≢ pos 0 → 0 < unsigned_abs b
nonzero-abs (pos b) h = nonzero-pos b h
nonzero-abs (negsuc b) h = omega arith

-- the remainder by any divisor, from the one that is not negative
pub floor_mod-is : (z b : ℤ) → b ≢ pos 0 → floor_mod z b ≡ toward (residue z (unsigned_abs b)) b
floor_mod-is z (pos b) h = floor_mod-pos z b (nonzero-pos b h)
floor_mod-is z (negsuc b) h = toward-neg z b

-- ---- the floor, from sizes

negative_floor : (a m : ℕ) → 0 < m → negsuc (a / m) ≡ neg_ℤ (pos (rounded_up (suc a / m) (suc a % m)))
negative_floor a m p =
    elim (step_of a m p) [
      | turns i j k ↦ rw (i, j) refl
      | goes_on i j k ↦ (
          let f : eqb (suc a % m) 0 ≡ false = grind (arith, nat_tests) in
          rw (f, j) (let e : a / m + 1 ≡ suc (a / m) = omega arith in rw e refl)
          )
    ]

-- of integers with different signs
pub floor_up : (a b : ℤ) → b ≢ pos 0 → true ≡ signs_differ a b → neg_ℤ (pos (rounded_up (unsigned_abs a / unsigned_abs b) (unsigned_abs a % unsigned_abs b))) ≡ floor_div a b
floor_up (pos a) (pos b) n h = absurd (cc)
floor_up (negsuc a) (negsuc b) n h = absurd (cc)
floor_up (pos zero) (negsuc b) n h =
    let e : 0 / suc b ≡ 0 = omega (arith, div-add-mod 0 (suc b)) in
    let f : 0 % suc b ≡ 0 = omega (arith, div-add-mod 0 (suc b)) in
    rw (e, f) refl
floor_up (pos (suc a)) (negsuc b) n h = sym (negative_floor a (suc b) (omega arith))
floor_up (negsuc a) (pos b) n h = sym (negative_floor a b (nonzero-pos b n))
