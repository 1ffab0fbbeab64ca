-- The last capture of a group.
use Rattle.std.proofs.Common.{◌≡◌, ℕ, zero, suc, ◌+◌, ◌-◌, ◌<◌, ◌≤◌, ◌==◌, Bool, true, false, cond, [], ◌∷◌, Option, Some, None, length, get_or, drop, refl, sym, ◌∙◌, arith, eq-eqb}
use Rattle.std.proofs.lemmas.Bool.{eqb-true}
use Rattle.std.proofs.lemmas.List.{drop_more}
use Rattle.std.specs.Option.{option_or}
use Rattle.sre_match.specs.Attempts.{Captured, Marks, span_of, last_group}

-- what a later part of the log says of a group, the log says
span_later : (m : Marks) (i g : ℕ) (at : ℕ × ℕ) → span_of (drop i m) g ≡ Some at → span_of m g ≡ Some at
span_later [] zero g at e = e
span_later [] (suc i) g at e = e
span_later (c ∷ m) zero g at e = e
span_later (c ∷ m) (suc i) g at e = rw (span_later m i g at e) refl

neq : (a b : ℕ) → (a ≡ b → ⊥) → (a == b) ≡ false
neq a b other = at (a == b) refl
  where
    at : (c : Bool) → (a == b) ≡ c → (a == b) ≡ false
    at true e = absurd (other (eqb-true a b e))
    at false e = e

span_here : (m : Marks) (i g : ℕ) (d : Captured) (b : Bool) → i < length m → ((get_or m i d).group == g) ≡ b → span_of (drop (i + 1) m) g ≡ None → span_of (drop i m) g ≡ cond b (Some ((get_or m i d).start, (get_or m i d).stop)) None
span_here m i g d b lt is none = rw (drop_more m i d lt, none, is) refl

-- the capture at i is the last one of its group
pub span_hit : (m : Marks) (j i g : ℕ) (d : Captured) → i < length m → j ≡ i + 1 → (get_or m i d).group ≡ g → span_of (drop j m) g ≡ None → Some ((get_or m i d).start, (get_or m i d).stop) ≡ span_of m g
span_hit m j i g d lt e same none = sym (span_later m i g ((get_or m i d).start, (get_or m i d).stop) (span_here m i g d true lt (eq-eqb (get_or m i d).group g same) (rw e at none)))

-- it is of another group
pub span_miss : (m : Marks) (j i g : ℕ) (d : Captured) → i < length m → j ≡ i + 1 → ((get_or m i d).group ≡ g → ⊥) → span_of (drop j m) g ≡ None → span_of (drop i m) g ≡ None
span_miss m j i g d lt e other none = span_here m i g d false lt (neq (get_or m i d).group g other) (rw e at none)

pub span_all : (m : Marks) (g : ℕ) → span_of (drop (length m) m) g ≡ None
span_all [] g = refl
span_all (c ∷ m) g = span_all m g

or_some : (x : Option ℕ) (g : ℕ) (y : Option ℕ) → option_or (option_or x (Some g)) y ≡ option_or x (Some g)
or_some None g y = refl
or_some (Some h) g y = refl

-- the last capture is that of the last group
pub last_group-at : (m : Marks) (d : Captured) → 1 ≤ length m → Some (get_or m (length m - 1) d).group ≡ last_group m
last_group-at [] d some = absurd (omega arith)
last_group-at (c ∷ []) d some = refl
last_group-at (c ∷ e ∷ m) d some =
    let one : length (c ∷ e ∷ m) - 1 ≡ suc (length (e ∷ m) - 1) = omega arith in
    rw one (last_group-at (e ∷ m) d (omega arith) ∙ sym (or_some (last_group m) e.group (Some c.group)))
