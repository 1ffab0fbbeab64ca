-- Captures, and the log of them.
use Rattle.std.proofs.Common.{◌≡◌, ◌∙◌, sym, ap, refl, ℕ, zero, suc, ◌+◌, ◌-◌, ◌<◌, ◌≤◌, List, [], ◌∷◌, ◌++◌, length, take, drop, get_or, arith, Some, None}
use Rattle.sre_match.specs.declared.marks.Capture.{Capture}
use Rattle.sre_match.specs.Attempts.{Captured, span_of, last_group}
use Rattle.sre_match.specs.Captures.{captured_by, captures, span_by}
use Rattle.sre_match.proofs.LastCaptureLemmas.{span_hit, span_miss, last_group-at}

pub captures_length : (cs : List Capture) → length (captures cs) ≡ length cs
captures_length [] = refl
captures_length (c ∷ cs) = ap suc (captures_length cs)

pub captures_push : (cs : List Capture) (c : Capture) → captures (cs ++ c ∷ []) ≡ captures cs ++ captured_by c ∷ []
captures_push [] c = refl
captures_push (d ∷ cs) c = ap (λ m. captured_by d ∷ m) (captures_push cs c)

pub captures_take : (n : ℕ) (cs : List Capture) → captures (take n cs) ≡ take n (captures cs)
captures_take zero cs = refl
captures_take (suc n) [] = refl
captures_take (suc n) (c ∷ cs) = ap (λ m. captured_by c ∷ m) (captures_take n cs)

pub captures_get : (cs : List Capture) (i : ℕ) (d : Capture) → get_or (captures cs) i (captured_by d) ≡ captured_by (get_or cs i d)
captures_get [] i d = refl
captures_get (c ∷ cs) zero d = refl
captures_get (c ∷ cs) (suc i) d = captures_get cs i d

pub capture_hit : (cs : List Capture) (j i g : ℕ) (d : Capture) → i < length cs → j ≡ i + 1 → (get_or cs i d).group ≡ g → span_of (drop j (captures cs)) g ≡ None → Some (span_by (get_or cs i d)) ≡ span_of (captures cs) g
capture_hit cs j i g d lt e same none =
    ap (λ (x : Captured). Some (x.start, x.stop)) (sym (captures_get cs i d))
    ∙ span_hit (captures cs) j i g (captured_by d) (omega (arith, lt, captures_length cs)) e (ap (λ (x : Captured). x.group) (captures_get cs i d) ∙ same) none

pub capture_miss : (cs : List Capture) (j i g : ℕ) (d : Capture) → i < length cs → j ≡ i + 1 → ((get_or cs i d).group ≡ g → ⊥) → span_of (drop j (captures cs)) g ≡ None → span_of (drop i (captures cs)) g ≡ None
capture_miss cs j i g d lt e other none =
    span_miss (captures cs) j i g (captured_by d) (omega (arith, lt, captures_length cs)) e (λ same. other (sym (ap (λ (x : Captured). x.group) (captures_get cs i d)) ∙ same)) none

pub last_capture : (cs : List Capture) (d : Capture) → 1 ≤ length cs → Some (get_or cs (length cs - 1) d).group ≡ last_group (captures cs)
last_capture cs d h =
    ap (λ (x : Captured). Some x.group) (sym (captures_get cs (length cs - 1) d))
    ∙ ap (λ n. Some (get_or (captures cs) (n - 1) (captured_by d)).group) (sym (captures_length cs))
    ∙ last_group-at (captures cs) (captured_by d) (omega (arith, h, captures_length cs))
