-- The nearest multiple, and ties to even.
use Rattle.std.proofs.Common.{◌≡◌, ◌≢◌, ℕ, zero, suc, ◌+◌, ◌-◌, ◌*◌, ◌/◌, ◌%◌, ◌^◌, ◌<◌, ◌≤◌, true, false, nat_lt, eqb, ℤ, pos, negsuc, neg_ℤ, ◌*ℤ◌, inl, inr, refl, ap, sym, ◌∙◌, arith}
use Rattle.std.proofs.Math.Nat.{div-add-mod, one-le-pow}
use Rattle.std.proofs.lemmas.Int.{ints}
use Rattle.std.proofs.lemmas.Nat.{mod_below}
use Rattle.std.proofs.lemmas.Bool.{cases_lt}
use Rattle.std.proofs.lemmas.Bool.Decides.{nat_tests}
use Rattle.py_int.specs.Bits.{is_odd}
use Rattle.py_int.specs.Round.{nearest, rounded, distance, IsNearestMultiple}

-- where n lies between two multiples of u
data Side (n u : ℕ) : Type 0 where
  below : 2 * (n % u) < u → nearest n u ≡ n / u → Side n u
  above : u < 2 * (n % u) → nearest n u ≡ n / u + 1 → Side n u
  even_below : 2 * (n % u) ≡ u → n / u % 2 ≡ 0 → nearest n u ≡ n / u → Side n u
  even_above : 2 * (n % u) ≡ u → n / u % 2 ≡ 1 → nearest n u ≡ n / u + 1 → Side n u

side_of_tie : (n u : ℕ) → 2 * (n % u) ≡ u → Side n u
side_of_tie n u h =
    let a : nat_lt u (2 * (n % u)) ≡ false = grind (arith, nat_tests) in
    let b : eqb (2 * (n % u)) u ≡ true = grind (arith, nat_tests) in
    elim (cases_lt (n / u % 2) 1) [
      | inl l ↦ (
          let c : eqb (n / u % 2) 1 ≡ false = grind (arith, nat_tests) in
          even_below h (omega arith) (rw (a, b, c) refl)
          )
      | inr l ↦ (
          let o : n / u % 2 ≡ 1 = omega arith in
          let c : eqb (n / u % 2) 1 ≡ true = grind (arith, nat_tests) in
          even_above h o (rw (a, b, c) refl)
          )
    ]

side_of : (n u : ℕ) → Side n u
side_of n u =
    elim (cases_lt (2 * (n % u)) u) [
      | inl l ↦ (
          let a : nat_lt u (2 * (n % u)) ≡ false = grind (arith, nat_tests) in
          let b : eqb (2 * (n % u)) u ≡ false = grind (arith, nat_tests) in
          below l (rw (a, b) refl)
          )
      | inr l ↦ elim (cases_lt u (2 * (n % u))) [
        | inl g ↦ (
            let a : nat_lt u (2 * (n % u)) ≡ true = grind (arith, nat_tests) in
            above g (rw a refl)
            )
        | inr g ↦ side_of_tie n u (omega arith)
      ]
    ]

-- ---- distances of natural numbers

abbrev gap : ℕ → ℕ → ℕ
gap a b = (a - b) + (b - a)

data Order (u k q : ℕ) : Type 0 where
  less : k < q → u * k + u ≤ u * q → Order u k q
  same : k ≡ q → Order u k q
  more : q < k → u * q + u ≤ u * k → Order u k q

times_less : (u k q : ℕ) → k < q → u * k + u ≤ u * q
times_less u k q h =
    let e : q ≡ k + suc (q - suc k) = omega arith in
    omega (arith, ap (λ x. u * x) e)

order : (u k q : ℕ) → Order u k q
order u k q =
    elim (cases_lt k q) [
      | inl h ↦ less h (times_less u k q h)
      | inr h ↦ elim (cases_lt q k) [
        | inl g ↦ more g (times_less u q k g)
        | inr g ↦ same (omega arith)
      ]
    ]

nearer : (n u q k : ℕ) → 0 < u → nearest n u ≡ q → gap n (u * q) ≤ gap n (u * k)
nearer n u q k p e =
    let w : u * (n / u) + n % u ≡ n = div-add-mod n u in
    let b : n % u < u = mod_below n u p in
    elim (order u k (n / u)) [
      | less h l ↦ elim (side_of n u) [
        | below s f ↦ (let g : q ≡ n / u = sym e ∙ f in rw g (omega arith))
        | above s f ↦ (let g : q ≡ n / u + 1 = sym e ∙ f in rw g (omega arith))
        | even_below s v f ↦ (let g : q ≡ n / u = sym e ∙ f in rw g (omega arith))
        | even_above s v f ↦ (let g : q ≡ n / u + 1 = sym e ∙ f in rw g (omega arith))
      ]
      | same h ↦ elim (side_of n u) [
        | below s f ↦ (let g : q ≡ n / u = sym e ∙ f in rw (g, h) (omega arith))
        | above s f ↦ (let g : q ≡ n / u + 1 = sym e ∙ f in rw (g, h) (omega arith))
        | even_below s v f ↦ (let g : q ≡ n / u = sym e ∙ f in rw (g, h) (omega arith))
        | even_above s v f ↦ (let g : q ≡ n / u + 1 = sym e ∙ f in rw (g, h) (omega arith))
      ]
      | more h l ↦ elim (side_of n u) [
        | below s f ↦ (let g : q ≡ n / u = sym e ∙ f in rw g (omega arith))
        | above s f ↦ (let g : q ≡ n / u + 1 = sym e ∙ f in rw g (omega arith))
        | even_below s v f ↦ (let g : q ≡ n / u = sym e ∙ f in rw g (omega arith))
        | even_above s v f ↦ (let g : q ≡ n / u + 1 = sym e ∙ f in rw g (omega arith))
      ]
    ]

-- another multiple as near
even_at_tie : (n u q k : ℕ) → 0 < u → nearest n u ≡ q → k ≢ q → gap n (u * q) ≡ gap n (u * k) → q % 2 ≡ 0
even_at_tie n u q k p e d t =
    let w : u * (n / u) + n % u ≡ n = div-add-mod n u in
    let b : n % u < u = mod_below n u p in
    elim (side_of n u) [
      | even_below s v f ↦ (let g : q ≡ n / u = sym e ∙ f in rw g v)
      | even_above s v f ↦ (let g : q ≡ n / u + 1 = sym e ∙ f in omega arith)
      | below s f ↦ (
          let g : q ≡ n / u = sym e ∙ f in
          let m : u * q ≡ u * (n / u) = ap (λ x. u * x) g in
          elim (order u k q) [ less h l ↦ absurd (omega arith) | same h ↦ absurd (d h) | more h l ↦ absurd (omega arith) ]
          )
      | above s f ↦ (
          let g : q ≡ n / u + 1 = sym e ∙ f in
          let m : u * q ≡ u * (n / u) + u = ap (λ x. u * x) g ∙ omega arith in
          elim (order u k q) [ less h l ↦ absurd (omega arith) | same h ↦ absurd (d h) | more h l ↦ absurd (omega arith) ]
          )
    ]

-- ---- integers

distance_pos : (n m : ℕ) → distance (pos n) (pos m) ≡ gap n m
distance_pos n m = omega (arith, ints)

-- a multiple on the other side of 0
distance_neg : (n m : ℕ) → distance (pos n) (neg_ℤ (pos m)) ≡ n + m
distance_neg n zero = omega (arith, ints)
distance_neg n (suc m) = omega (arith, ints)

no_farther : (n u q : ℕ) → 0 < u → nearest n u ≡ q → gap n (u * q) ≤ n
no_farther n u q p e = let z : u * 0 ≡ 0 = omega arith in omega (arith, nearer n u q 0 p e)

near_by : (n u : ℕ) (k : ℤ) → 0 < u → distance (pos n) (pos (u * nearest n u)) ≤ distance (pos n) (pos u *ℤ k)
near_by n u (pos k) p =
    let h : gap n (u * nearest n u) ≤ gap n (u * k) = nearer n u (nearest n u) k p refl in
    rw (distance_pos n (u * nearest n u), distance_pos n (u * k)) h
near_by n u (negsuc k) p =
    let h : gap n (u * nearest n u) ≤ n = no_farther n u (nearest n u) p refl in
    rw (distance_pos n (u * nearest n u), distance_neg n (u * suc k)) (omega arith)

even_by : (n u : ℕ) (k : ℤ) → 0 < u → k ≢ pos (nearest n u) → distance (pos n) (pos (u * nearest n u)) ≡ distance (pos n) (pos u *ℤ k) → is_odd (pos (nearest n u)) ≡ false
even_by n u (pos k) p d t =
    let q = nearest n u in
    let s : gap n (u * nearest n u) ≡ gap n (u * k) = sym (distance_pos n (u * nearest n u)) ∙ t ∙ distance_pos n (u * k) in
    let e : nearest n u % 2 ≡ 0 = even_at_tie n u (nearest n u) k p refl (λ f. d (ap pos f)) s in
    rw e refl
even_by n u (negsuc k) p d t =
    let s : gap n (u * nearest n u) ≡ n + u * suc k = sym (distance_pos n (u * nearest n u)) ∙ t ∙ distance_neg n (u * suc k) in
    absurd (let h : gap n (u * nearest n u) ≤ n = no_farther n u (nearest n u) p refl in omega arith)

of_pos : (n u : ℕ) → 0 < u → IsNearestMultiple u (pos n) (pos (u * nearest n u))
of_pos n u p = record {
  quotient = pos (nearest n u);
  multiple = refl;
  nearest_one = λ k. near_by n u k p;
  ties_to_even = λ k d t. even_by n u k p d t;
}

-- ---- the other sign

neg_neg : (z : ℤ) → neg_ℤ (neg_ℤ z) ≡ z
neg_neg (pos zero) = refl
neg_neg (pos (suc n)) = refl
neg_neg (negsuc n) = refl

times_neg : (u : ℕ) (k : ℤ) → pos u *ℤ neg_ℤ k ≡ neg_ℤ (pos u *ℤ k)
times_neg u (pos zero) = omega (arith, ints)
times_neg u (pos (suc k)) = refl
times_neg u (negsuc k) = sym (neg_neg (pos (u * suc k)))

distance_flip : (a b : ℤ) → distance (neg_ℤ a) (neg_ℤ b) ≡ distance a b
distance_flip a b = omega (arith, ints)

distance_back : (u : ℕ) (z k : ℤ) → distance (neg_ℤ z) (pos u *ℤ k) ≡ distance z (pos u *ℤ neg_ℤ k)
distance_back u z k =
    ap (λ x. distance (neg_ℤ z) x) (sym (neg_neg (pos u *ℤ k))) ∙ distance_flip z (neg_ℤ (pos u *ℤ k)) ∙ ap (λ x. distance z x) (sym (times_neg u k))

-- n is even where n + 1 is not
odd_next : (n : ℕ) → is_odd (negsuc n) ≡ is_odd (pos (suc n))
odd_next n =
    elim (cases_lt (n % 2) 1) [
      | inl h ↦ (
          let a : eqb (n % 2) 0 ≡ true = grind (arith, nat_tests) in
          let o : suc n % 2 ≡ 1 = omega arith in
          let b : eqb (suc n % 2) 1 ≡ true = grind (arith, nat_tests) in
          rw (a, b) refl
          )
      | inr h ↦ (
          let a : eqb (n % 2) 0 ≡ false = grind (arith, nat_tests) in
          let o : suc n % 2 ≡ 0 = omega arith in
          let b : eqb (suc n % 2) 1 ≡ false = grind (arith, nat_tests) in
          rw (a, b) refl
          )
    ]

odd_flip : (z : ℤ) → is_odd (neg_ℤ z) ≡ is_odd z
odd_flip (pos zero) = refl
odd_flip (pos (suc n)) = odd_next n
odd_flip (negsuc n) = sym (odd_next n)

flip : (u : ℕ) (z r : ℤ) → IsNearestMultiple u z r → IsNearestMultiple u (neg_ℤ z) (neg_ℤ r)
flip u z r h = record {
  quotient = neg_ℤ h.quotient;
  multiple = ap neg_ℤ h.multiple ∙ sym (times_neg u h.quotient);
  nearest_one = λ k. rw (distance_flip z r, distance_back u z k) (h.nearest_one (neg_ℤ k));
  ties_to_even = λ k d t. odd_flip h.quotient ∙ h.ties_to_even (neg_ℤ k) (λ e. d (sym (neg_neg k) ∙ ap neg_ℤ e)) (sym (distance_flip z r) ∙ t ∙ distance_back u z k);
}

some_power : (d : ℕ) → 0 < 10 ^ d
some_power d = omega (arith, one-le-pow d 10 (omega arith))

pub rounding_is_nearest : (z : ℤ) (d : ℕ) → IsNearestMultiple (10 ^ d) z (rounded z d)
rounding_is_nearest (pos n) d = of_pos n (10 ^ d) (some_power d)
rounding_is_nearest (negsuc n) d =
    flip (10 ^ d) (pos (suc n)) (pos (10 ^ d * nearest (suc n) (10 ^ d))) (of_pos (suc n) (10 ^ d) (some_power d))
