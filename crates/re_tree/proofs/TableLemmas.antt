-- What is found in a table.
use Rattle.std.proofs.Common.{◌≡◌, refl, sym, ◌∙◌, ap, subst, ℕ, ◌==◌, Bool, true, false, not, List, [], ◌∷◌, arith}
use Rattle.std.specs.Prelude.{Option, Some, None, cond, ◌&&◌}
use Rattle.std.specs.List.{list_all}
use Rattle.std.proofs.lemmas.Bool.{eqb-true}
use Rattle.py_base.specs.Reading.{find}

and_left : (a b : Bool) → (a && b) ≡ true → a ≡ true
and_left true b h = refl
and_left false b h = h

and_right : (a b : Bool) → (a && b) ≡ true → b ≡ true
and_right true b h = h
and_right false b h = let f : ⊥ = cc h in absurd f

-- a character that no key of the table is like is not in it
pub absent : {X : Type 0} (test : ℕ → Bool) (table : List (ℕ × X)) (c : ℕ) → test c ≡ true → list_all (λ x. not (test x.0)) table ≡ true → find table c ≡ None
absent test [] c h k = refl
absent test (x ∷ table) c h k = at (absent test table c h (and_right (not (test x.0)) (list_all (λ y. not (test y.0)) table) k)) (x.0 == c) refl
  where
    at : find table c ≡ None → (b : Bool) → (x.0 == c) ≡ b → cond (x.0 == c) (Some x.1) (find table c) ≡ None
    at rest true e =
        let i : x.0 ≡ c = eqb-true x.0 c e in
        let f : ⊥ = cc (and_left (not (test x.0)) (list_all (λ y. not (test y.0)) table) k, ap not (ap test i ∙ h)) in absurd f
    at rest false e = ap (λ b. cond b (Some x.1) (find table c)) e ∙ rest

-- a value that only one key has tells the character
pub key_is : {X : Type 0} (key : X → ℕ) (table : List (ℕ × X)) (c : ℕ) (v : X) → list_all (λ x. key x.1 == x.0) table ≡ true → find table c ≡ Some v → c ≡ key v
key_is key [] c v k h = let f : ⊥ = cc h in absurd f
key_is key (x ∷ table) c v k h = at (key_is key table c v (and_right (key x.1 == x.0) (list_all (λ y. key y.1 == y.0) table) k)) (x.0 == c) refl
  where
    at : (find table c ≡ Some v → c ≡ key v) → (b : Bool) → (x.0 == c) ≡ b → c ≡ key v
    at rest true e =
        let i : x.0 ≡ c = eqb-true x.0 c e in
        let w : Some x.1 ≡ Some v = sym (ap (λ b. cond b (Some x.1) (find table c)) e) ∙ h in
        let u : x.1 ≡ v = cc w in
        sym i ∙ sym (eqb-true (key x.1) x.0 (and_left (key x.1 == x.0) (list_all (λ y. key y.1 == y.0) table) k)) ∙ ap key u
    at rest false e = rest (sym (ap (λ b. cond b (Some x.1) (find table c)) e) ∙ h)
