-- Searches from the right are searches from the left in the texts turned round.
use Rattle.std.proofs.Common.{◌≡◌, ℕ, ◌+◌, ◌-◌, ◌<◌, ◌≤◌, ◌⊎◌, inl, inr, Bool, true, false, if◌then◌else◌, List, ◌++◌, reverse, length, take, drop, suc, zero, refl, ap, sym, ◌∙◌, arith, length-append, length-drop, subst, Option, Some, None, append_assoc}
use Rattle.std.proofs.lemmas.List.{take-append-drop, length-take-le, reverse-append, reverse-reverse, length-reverse, drop_at, take_at}
use Rattle.py_text.specs.Occurrences.{occurs_at, greatest, first_in, last_in, IsAround}
use Rattle.py_text.proofs.OccursLemmas.{Occurs, occurs_true, first_is, first_none, below_or_last}
use Rattle.py_text.proofs.WindowLemmas.{last_means}

-- above the greatest number that passes, none passes
above_case : (p : ℕ → Bool) (n a c : ℕ) (o : Option ℕ) (t : Bool) → p n ≡ t → (o ≡ Some a → (d : ℕ) → a < d → d < n → p d ≡ false) → (if t then Some n else o) ≡ Some a → a < c → (c < n) ⊎ (c ≡ n) → p c ≡ false
above_case p n a c o true q f h lt s = absurd (let e : n ≡ a = cc in elim s [ inl k ↦ omega arith | inr k ↦ omega arith ])
above_case p n a c o false q f h lt (inl k) = f h c lt k
above_case p n a c o false q f h lt (inr k) = subst (λ (m : ℕ). p m ≡ false) (sym k) q

greatest_above : (p : ℕ → Bool) (n a : ℕ) → greatest p n ≡ Some a → (c : ℕ) → a < c → c < n → p c ≡ false
greatest_above p zero a h c lt k = absurd (omega arith)
greatest_above p (suc n) a h c lt k = above_case p n a c (greatest p n) (p n) refl (greatest_above p n a) h lt (below_or_last c n k)

nowhere_case : (p : ℕ → Bool) (n c : ℕ) (o : Option ℕ) (t : Bool) → p n ≡ t → (o ≡ None → (d : ℕ) → d < n → p d ≡ false) → (if t then Some n else o) ≡ None → (c < n) ⊎ (c ≡ n) → p c ≡ false
nowhere_case p n c o true q f h s = absurd (cc)
nowhere_case p n c o false q f h (inl k) = f h c k
nowhere_case p n c o false q f h (inr k) = subst (λ (m : ℕ). p m ≡ false) (sym k) q

greatest_nowhere : (p : ℕ → Bool) (n : ℕ) → greatest p n ≡ None → (c : ℕ) → c < n → p c ≡ false
greatest_nowhere p zero h c k = absurd (omega arith)
greatest_nowhere p (suc n) h c k = nowhere_case p n c (greatest p n) (p n) refl (greatest_nowhere p n) h (below_or_last c n k)

-- L is the front up to a, x, and the rest
parted_there : (x L : List ℕ) (a : ℕ) (s : Occurs x L a) → L ≡ take a L ++ (x ++ s.0)
parted_there x L a s = sym (take-append-drop a L) ∙ ap (λ r. take a L ++ r) s.1

turned : (x L : List ℕ) (a : ℕ) (s : Occurs x L a) → reverse L ≡ reverse s.0 ++ (reverse x ++ reverse (take a L))
turned x L a s = ap reverse (parted_there x L a s) ∙ reverse-append (take a L) (x ++ s.0) ∙ ap (λ r. r ++ reverse (take a L)) (reverse-append x s.0) ∙ append_assoc (reverse s.0) (reverse x) (reverse (take a L))

rest_length : (x L : List ℕ) (a : ℕ) (s : Occurs x L a) → length s.0 ≡ length L - (a + length x)
rest_length x L a s = omega (arith, ap length s.1, length-append x s.0, length-drop a L)

pub mirror_occurs : (x L : List ℕ) (a : ℕ) → Occurs x L a → Occurs (reverse x) (reverse L) (length L - (a + length x))
mirror_occurs x L a s =
    (reverse (take a L), ap (drop (length L - (a + length x))) (turned x L a s) ∙ drop_at (reverse s.0) (reverse x ++ reverse (take a L)) (length L - (a + length x)) (length-reverse s.0 ∙ rest_length x L a s))

unmirrored : (x L : List ℕ) (c : ℕ) → Occurs (reverse x) (reverse L) c → Occurs x L (length L - (c + length x))
unmirrored x L c s =
    let m : Occurs (reverse (reverse x)) (reverse (reverse L)) (length (reverse L) - (c + length (reverse x))) = mirror_occurs (reverse x) (reverse L) c s in
    let at : length (reverse L) - (c + length (reverse x)) ≡ length L - (c + length x) = omega (arith, length-reverse L, length-reverse x) in
    subst (λ (n : ℕ). Occurs x L n) at (subst (λ (y : List ℕ). Occurs y L (length (reverse L) - (c + length (reverse x)))) (reverse-reverse x) (subst (λ (M : List ℕ). Occurs (reverse (reverse x)) M (length (reverse L) - (c + length (reverse x)))) (reverse-reverse L) m))

reversed_fits : (x L : List ℕ) (c : ℕ) → c ≤ length (reverse L) → Occurs (reverse x) (reverse L) c → c + length x ≤ length L
reversed_fits x L c h s = omega (arith, h, length-reverse L, length-reverse x, ap length s.1, length-append (reverse x) s.0, length-drop c (reverse L))

no_text : (b : Bool) → b ≡ true → b ≡ false → ⊥
no_text b p q = cc

pub mirror_none : (x L : List ℕ) → last_in x L 0 (length L) ≡ None → first_in (reverse x) (reverse L) 0 (length (reverse L)) ≡ None
mirror_none x L h =
    first_none (reverse x) (reverse L) (λ c k s.
    let fits : c + length x ≤ length L = reversed_fits x L c k s in
    no_text (occurs_at x L 0 (length L) (length L - (c + length x)))
    (occurs_true x L 0 (length L) (length L - (c + length x)) (omega arith) (omega arith) (unmirrored x L c s))
    (greatest_nowhere (occurs_at x L 0 (length L)) (suc (length L)) h (length L - (c + length x)) (omega arith)))

pub mirror_some : (x L : List ℕ) (a : ℕ) → last_in x L 0 (length L) ≡ Some a → first_in (reverse x) (reverse L) 0 (length (reverse L)) ≡ Some (length L - (a + length x))
mirror_some x L a h =
    let w = last_means x L 0 (length L) a h in
    first_is (reverse x) (reverse L) (length L - (a + length x)) (omega (arith, length-reverse L)) (mirror_occurs x L a w.there) (λ c k s.
    let fits : c + length x ≤ length L = reversed_fits x L c (omega (arith, length-reverse L)) s in
    no_text (occurs_at x L 0 (length L) (length L - (c + length x)))
    (occurs_true x L 0 (length L) (length L - (c + length x)) (omega arith) (omega arith) (unmirrored x L c s))
    (greatest_above (occurs_at x L 0 (length L)) (suc (length L)) a h (length L - (c + length x)) (omega (arith, w.to)) (omega arith)))

-- a cut at the last place is one at the first place of the texts turned round
pub mirror_cut : (x L front back : List ℕ) → IsAround x L (last_in x L 0 (length L)) front back → IsAround (reverse x) (reverse L) (first_in (reverse x) (reverse L) 0 (length (reverse L))) (reverse back) (reverse front)
mirror_cut x L front back cut =
    let w = last_means x L 0 (length L) cut.0 cut.1 in
    let rest : back ≡ w.there.0 = cut.3 ∙ ap (drop (cut.0 + length x)) (parted_there x L cut.0 w.there ∙ sym (append_assoc (take cut.0 L) x w.there.0)) ∙ drop_at (take cut.0 L ++ x) w.there.0 (cut.0 + length x) (omega (arith, length-append (take cut.0 L) x, length-take-le cut.0 L (omega (arith, w.to)))) in
    let at : length (reverse w.there.0) ≡ length L - (cut.0 + length x) = length-reverse w.there.0 ∙ rest_length x L cut.0 w.there in (
      length L - (cut.0 + length x),
      mirror_some x L cut.0 cut.1,
      ap reverse rest ∙ sym (ap (take (length L - (cut.0 + length x))) (turned x L cut.0 w.there) ∙ take_at (reverse w.there.0) (reverse x ++ reverse (take cut.0 L)) (length L - (cut.0 + length x)) at),
      ap reverse cut.2 ∙ sym (ap (drop (length L - (cut.0 + length x) + length (reverse x))) (turned x L cut.0 w.there ∙ sym (append_assoc (reverse w.there.0) (reverse x) (reverse (take cut.0 L))))
          ∙ drop_at (reverse w.there.0 ++ reverse x) (reverse (take cut.0 L)) (length L - (cut.0 + length x) + length (reverse x)) (omega (arith, at, length-append (reverse w.there.0) (reverse x)))),
    )
