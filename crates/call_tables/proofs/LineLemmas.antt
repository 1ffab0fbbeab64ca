-- One more line of a table.
use Rattle.std.proofs.Common.{◌≡◌, ◌++◌, ℕ, List, [], ◌∷◌, refl, subst, inl, inr, map, Bor, Result, Ok, Err, OnOk}
use Rattle.py_base.specs.Counts.{one_more}
use Rattle.call_tables.specs.declared.fault.Fault.{Fault}
use Rattle.call_tables.specs.declared.report.Tally.{Tally}
use Rattle.call_tables.specs.declared.token.Token.{Token}
use Rattle.call_tables.specs.Lines.{IsRight, AddsLine, AddsLines}

pub add_item : (g : List ℕ → List Token → Result (List Token) Fault → Type 0) (items : List (Bor (List ℕ))) (item : Bor (List ℕ)) (old mid new : Tally) →
    AddsLines g (map (λ x. x.now) items) old mid → AddsLine g item.now mid new → AddsLines g (map (λ x. x.now) (items ++ item ∷ [])) old new
add_item g [] item old mid new h a = subst (λ t. (m : Tally) × (AddsLine g item.now t m × (new ≡ m))) h (new, (a, refl))
add_item g (l ∷ ls) item old mid new (m, (a, h)) b = (m, (a, add_item g ls item m mid new h b))

-- all lines are told where the items are the lines
pub all_told : (g : List ℕ → List Token → Result (List Token) Fault → Type 0) (items : List (Bor (List ℕ))) (lines : List (List ℕ)) (old was new : Tally) →
    AddsLines g (map (λ x. x.now) items) was new → map (λ x. x.now) items ≡ lines → was ≡ old → AddsLines g lines old new
all_told g items lines old was new h e o =
    subst (λ x. AddsLines g x old new) e (subst (λ x. AddsLines g (map (λ y. y.now) items) x new) o h)

-- a line that differs, and a right one that agrees
pub line_differs : {T E : Type 0} (r : Result T E) (g : List ℕ → List Token → Result (List Token) Fault → Type 0) (line : List ℕ) (old new : Tally) →
    OnOk r (new.calls ≡ one_more old.calls) → OnOk r (new.agreeing ≡ old.agreeing) → OnOk r (AddsLine g line old new)
line_differs (Ok v) g line old new c a = (c, inr a)
line_differs (Err e) g line old new c a = tt

pub line_agrees : {T E : Type 0} (r : Result T E) (g : List ℕ → List Token → Result (List Token) Fault → Type 0) (line : List ℕ) (old new : Tally) →
    IsRight g line → OnOk r (new.calls ≡ one_more old.calls) → OnOk r (new.agreeing ≡ one_more old.agreeing) → OnOk r (AddsLine g line old new)
line_agrees (Ok v) g line old new h c a = (c, inl (h, a))
line_agrees (Err e) g line old new h c a = tt
