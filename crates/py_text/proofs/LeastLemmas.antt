-- The least and the greatest place.
use Rattle.std.proofs.Common.{◌≡◌, ℕ, ◌<◌, ◌≤◌, inl, inr, Bool, true, false, if◌then◌else◌, suc, zero, List, refl, ap, ◌∙◌, arith, subst, Option, Some, None}
use Rattle.std.specs.Option.{option_or}
use Rattle.py_text.specs.Occurrences.{occurs_at, least, greatest}
use Rattle.py_text.specs.Laws.{IsLeast, IsGreatest, FirstIsLeast, LastIsGreatest}
use Rattle.py_text.proofs.OccursLemmas.{occurs_means, below_or_last, least_none, greatest_none, not_true}
use Rattle.py_text.proofs.WindowLemmas.{least_means, greatest_means}

-- where some number passes, one is found
least_case : (p : ℕ → Bool) (n : ℕ) (o : Option ℕ) → p n ≡ true → ((c : ℕ) → o ≡ Some c → (p c ≡ true) × (c < n)) → (c : ℕ) × (option_or o (if p n then Some n else None) ≡ Some c) × (p c ≡ true) × (c ≤ n)
least_case p n None h f = (n, ap (λ t. if t then Some n else None) h, h, omega arith)
least_case p n (Some c) h f = let r = f c refl in (c, refl, r.0, omega (arith, r.1))

least_found : (p : ℕ → Bool) (n a : ℕ) → p a ≡ true → a < n → (c : ℕ) × (least p n ≡ Some c) × (p c ≡ true) × (c ≤ a)
least_found p zero a h l = absurd (omega arith)
least_found p (suc n) a h l =
    elim (below_or_last a n l) [
      | inl k ↦ let r = least_found p n a h k in (r.0, ap (λ o. option_or o (if p n then Some n else None)) r.1, r.2, r.3)
      | inr k ↦ let r = least_case p n (least p n) (subst (λ (m : ℕ). p m ≡ true) k h) (λ c e. least_means p n c e) in (r.0, r.1, r.2, omega (arith, r.3))
    ]

greatest_case : (p : ℕ → Bool) (n a : ℕ) (t : Bool) → p n ≡ t → p a ≡ true → a < suc n → (a < n → (c : ℕ) × (greatest p n ≡ Some c) × (p c ≡ true) × (a ≤ c)) → (c : ℕ) × ((if t then Some n else greatest p n) ≡ Some c) × (p c ≡ true) × (a ≤ c)
greatest_case p n a true e h l f = (n, refl, e, omega arith)
greatest_case p n a false e h l f =
    elim (below_or_last a n l) [ inl k ↦ f k | inr k ↦ absurd (let s : p n ≡ true = subst (λ (m : ℕ). p m ≡ true) k h in cc) ]

greatest_found : (p : ℕ → Bool) (n a : ℕ) → p a ≡ true → a < n → (c : ℕ) × (greatest p n ≡ Some c) × (p c ≡ true) × (a ≤ c)
greatest_found p zero a h l = absurd (omega arith)
greatest_found p (suc n) a h l = greatest_case p n a (p n) refl h l (greatest_found p n a h)

-- all numbers that pass are below n
abbrev Within : (ℕ → Bool) → ℕ → Type 0
Within p n = (a : ℕ) → p a ≡ true → a < n

same_some : (o : Option ℕ) (a c : ℕ) → o ≡ Some a → o ≡ Some c → a ≡ c
same_some o a c h k = cc

some_or_none : (o : Option ℕ) (a : ℕ) → o ≡ None → o ≡ Some a → ⊥
some_or_none o a h k = cc

least_is_least : (p : ℕ → Bool) (n : ℕ) → Within p n → IsLeast p (least p n)
least_is_least p n within = record {
  some = λ a. (
    λ h. ((least_means p n a h).0, λ c t. let r = least_found p n c t (within c t) in omega (arith, same_some (least p n) a r.0 h r.1, r.3)),
    λ h. let r = least_found p n a h.0 (within a h.0) in r.1 ∙ ap Some (omega (arith, r.3, h.1 r.0 r.2)),
  );
  none = (
    λ h a. not_true (p a) (λ t. let r = least_found p n a t (within a t) in some_or_none (least p n) r.0 h r.1),
    λ f. least_none p n (λ c k. f c),
  );
}

greatest_is_greatest : (p : ℕ → Bool) (n : ℕ) → Within p n → IsGreatest p (greatest p n)
greatest_is_greatest p n within = record {
  some = λ a. (
    λ h. ((greatest_means p n a h).0, λ c t. let r = greatest_found p n c t (within c t) in omega (arith, same_some (greatest p n) a r.0 h r.1, r.3)),
    λ h. let r = greatest_found p n a h.0 (within a h.0) in r.1 ∙ ap Some (omega (arith, r.3, h.1 r.0 r.2)),
  );
  none = (
    λ h a. not_true (p a) (λ t. let r = greatest_found p n a t (within a t) in some_or_none (greatest p n) r.0 h r.1),
    λ f. greatest_none p n (λ c k. f c),
  );
}

below_end : (x L : List ℕ) (b e : ℕ) → Within (occurs_at x L b e) (suc e)
below_end x L b e = λ a h. omega (arith, (occurs_means x L b e a h).to)

pub first_is_least : FirstIsLeast
first_is_least = λ x L b e. least_is_least (occurs_at x L b e) (suc e) (below_end x L b e)

pub last_is_greatest : LastIsGreatest
last_is_greatest = λ x L b e. greatest_is_greatest (occurs_at x L b e) (suc e) (below_end x L b e)
