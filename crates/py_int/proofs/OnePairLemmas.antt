-- The floor of a quotient and what it leaves are the one pair that divides.
use Rattle.std.proofs.Common.{◌≡◌, ◌≢◌, ◌↔◌, ℕ, zero, suc, ◌+◌, ◌-◌, ◌*◌, ◌<◌, ℤ, pos, negsuc, neg_ℤ, ◌+ℤ◌, ◌-ℤ◌, ◌*ℤ◌, unsigned_abs, ◌⊎◌, inl, inr, refl, ap, sym, ◌∙◌, arith}
use Rattle.std.proofs.lemmas.Int.{ints}
use Rattle.std.proofs.lemmas.Nat.{div-mul-add}
use Rattle.py_int.specs.Divide.{HasSignOf, IsDivision, floor_of, floor_div, floor_mod}
use Rattle.py_int.specs.Residue.{residue, toward}
use Rattle.py_int.proofs.DivideLemmas.{floor_mod-is, residue_below, nonzero-abs, toward_zero, toward_more}

zero_or_more : (n : ℕ) → (n ≡ 0) ⊎ (0 < n)
zero_or_more zero = inl refl
zero_or_more (suc n) = inr (omega arith)

toward_sign : (r : ℕ) (b : ℤ) → HasSignOf b (toward r b)
toward_sign r (pos b) = tt
toward_sign r (negsuc b) =
    elim (zero_or_more r) [
      | inl e ↦ rw (toward_zero r b e) refl
      | inr h ↦ rw (toward_more r b h) tt
    ]

toward_small : (r : ℕ) (b : ℤ) → r < unsigned_abs b → unsigned_abs (toward r b) < unsigned_abs b
toward_small r (pos b) h = h
toward_small r (negsuc b) h =
    elim (zero_or_more r) [
      | inl e ↦ rw (toward_zero r b e) (omega arith)
      | inr l ↦ rw (toward_more r b l) (omega arith)
    ]

floor_divides : (a b : ℤ) → b ≢ pos 0 → IsDivision a b (floor_div a b) (floor_mod a b)
floor_divides a b n =
    let r = residue a (unsigned_abs b) in
    let e = floor_mod-is a b n in
    let h = residue_below a (unsigned_abs b) (nonzero-abs b n) in
    record {
      whole = omega (arith, ints);
      sign = rw e (toward_sign (residue a (unsigned_abs b)) b);
      small = rw e (toward_small (residue a (unsigned_abs b)) b h);
    }

-- the floor, where what is left is not negative
floor_by : (a q : ℤ) (m s : ℕ) → s < m → a ≡ (pos m *ℤ q) +ℤ pos s → floor_of a m ≡ q
floor_by a (pos k) m s h e =
    let f : a ≡ pos (k * m + s) = omega (arith, ints) in
    rw f (ap pos (div-mul-add k m s h))
floor_by a (negsuc k) m s h e =
    let f : a ≡ negsuc (k * m + (m - suc s)) = omega (arith, ints) in
    rw f (ap negsuc (div-mul-add k m (m - suc s) (omega arith)))

turn_signs : (a q r : ℤ) (m : ℕ) → a ≡ (negsuc m *ℤ q) +ℤ r → neg_ℤ a ≡ (pos (suc m) *ℤ q) +ℤ neg_ℤ r
turn_signs a (pos k) r m e = omega (arith, ints)
turn_signs a (negsuc k) r m e = omega (arith, ints)

floor_is : (a b q r : ℤ) → IsDivision a b q r → q ≡ floor_div a b
floor_is a (pos m) q (pos s) d = sym (floor_by a q m s d.small d.whole)
floor_is a (pos m) q (negsuc s) d = absurd d.sign
floor_is a (negsuc m) q (pos s) d =
    let z : s ≡ 0 = d.sign in
    let e : neg_ℤ a ≡ (pos (suc m) *ℤ q) +ℤ pos 0 = turn_signs a q (pos s) m d.whole ∙ rw z refl in
    sym (floor_by (neg_ℤ a) q (suc m) 0 (omega arith) e)
floor_is a (negsuc m) q (negsuc s) d =
    sym (floor_by (neg_ℤ a) q (suc m) (suc s) d.small (turn_signs a q (negsuc s) m d.whole))

rest_is : (a b q r : ℤ) → a ≡ (b *ℤ q) +ℤ r → r ≡ a -ℤ b *ℤ q
rest_is a b q r e = omega (arith, ints)

pub one_pair : (a b q r : ℤ) → b ≢ pos 0 → IsDivision a b q r ↔ ((q ≡ floor_div a b) × (r ≡ floor_mod a b))
one_pair a b q r n = (
  λ d. let e = floor_is a b q r d in (e, rest_is a b q r d.whole ∙ ap (λ f. a -ℤ b *ℤ f) e),
  λ p. rw (p.0, p.1) (floor_divides a b n),
)
