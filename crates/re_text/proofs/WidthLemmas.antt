-- A part of a width passes over that many units.
use Rattle.std.proofs.Common.{◌≡◌, refl, sym, ◌∙◌, ap, subst, ℕ, zero, suc, ◌+◌, ◌*◌, ◌==◌, Bool, true, false, List, [], ◌∷◌, ◌++◌, arith}
use Rattle.std.specs.Prelude.{Option, Some, None, is_some, cond}
use Rattle.std.proofs.lemmas.Bool.{eq-eqb, eqb-true}
use Rattle.sre_match.specs.Attempts.{Marks, span_of}
use Rattle.re_tree.specs.declared.tree.CountMode.{CountMode}
use Rattle.re_tree.specs.declared.tree.CountMode.TheVariants.{Greedy, Lazy, Possessive}
use Rattle.re_tree.specs.PlainText.{PlainText, PlainTexts, unit, anchor, reference, conditional, conditional_else, sequence, alternation, counted, capture, plain, atomic_text, look_text, done, ◌also◌, Names, number_of}
use Rattle.re_text.specs.Outcomes.{Outcome, Onward, here, only_if, each_then, closing, first_of_all, looked, keep_if, ending_at, times_from, in_mode, optional_count, outcomes, outcomes_in_turn, outcomes_of_each}
use Rattle.re_tree.specs.Widths.{plus, common, times, width, sum_of_widths, common_width}
use Rattle.re_text.specs.Laws.{AllEndAt}

-- what two widths are where their sum, their common one or a multiple is k
plus_some : (a b : Option ℕ) (k : ℕ) → plus a b ≡ Some k → (x : ℕ) × (y : ℕ) × (a ≡ Some x) × (b ≡ Some y) × (k ≡ x + y)
plus_some (Some x) (Some y) k h = (x, y, refl, refl, cc h)
plus_some (Some x) None k h = let f : ⊥ = cc h in absurd f
plus_some None b k h = let f : ⊥ = cc h in absurd f

both_some : (x y k : ℕ) (test : Bool) → (x == y) ≡ test → cond test (Some x) None ≡ Some k → (x ≡ k) × (y ≡ k)
both_some x y k true e h = let s : x ≡ k = cc h in let t : x ≡ y = eqb-true x y e in (s, sym t ∙ s)
both_some x y k false e h = let f : ⊥ = cc h in absurd f

common_some : (a b : Option ℕ) (k : ℕ) → common a b ≡ Some k → (a ≡ Some k) × (b ≡ Some k)
common_some (Some x) (Some y) k h = let p = both_some x y k (x == y) refl h in (ap Some p.0, ap Some p.1)
common_some (Some x) None k h = let f : ⊥ = cc h in absurd f
common_some None b k h = let f : ⊥ = cc h in absurd f

exact_some : (least most x k : ℕ) (test : Bool) → (most == least) ≡ test → cond test (Some (least * x)) None ≡ Some k → (most ≡ least) × (k ≡ least * x)
exact_some least most x k true e h = (eqb-true most least e, cc h)
exact_some least most x k false e h = let f : ⊥ = cc h in absurd f

times_some : (least : ℕ) (most a : Option ℕ) (k : ℕ) → times least most a ≡ Some k → (x : ℕ) × (most ≡ Some least) × (a ≡ Some x) × (k ≡ least * x)
times_some least (Some most) (Some x) k h = let p = exact_some least most x k (most == least) refl h in (x, ap Some p.0, refl, p.1)
times_some least (Some most) None k h = let f : ⊥ = cc h in absurd f
times_some least None a k h = let f : ⊥ = cc h in absurd f

-- lists whose outcomes all end at one place
at_end : (e f : ℕ) (xs : List Outcome) → e ≡ f → AllEndAt e xs → AllEndAt f xs
at_end e f xs h k = subst (λ d. AllEndAt d xs) h k

append_ends : (e : ℕ) (xs ys : List Outcome) → AllEndAt e xs → AllEndAt e ys → AllEndAt e (xs ++ ys)
append_ends e [] ys h k = k
append_ends e (o ∷ xs) ys h k = (h.0, append_ends e xs ys h.1 k)

then_ends : (e k : ℕ) (xs : List Outcome) (f : Onward) → AllEndAt e xs → ((p : ℕ) (m : Marks) → AllEndAt (p + k) (f p m)) → AllEndAt (e + k) (each_then xs f)
then_ends e k [] f h g = tt
then_ends e k (o ∷ xs) f h g =
    append_ends (e + k) (f o.0 o.1) (each_then xs f) (at_end (o.0 + k) (e + k) (f o.0 o.1) (ap (λ d. d + k) h.0) (g o.0 o.1)) (then_ends e k xs f h.1 g)

only_ends : (b : Bool) (e : ℕ) (m : Marks) → AllEndAt e (only_if b e m)
only_ends true e m = (refl, tt)
only_ends false e m = tt

closing_ends : (g p e : ℕ) (xs : List Outcome) → AllEndAt e xs → AllEndAt e (closing g p xs)
closing_ends g p e [] h = tt
closing_ends g p e (o ∷ xs) h = (h.0, closing_ends g p e xs h.1)

first_ends : (e : ℕ) (xs : List Outcome) → AllEndAt e xs → AllEndAt e (first_of_all xs)
first_ends e [] h = tt
first_ends e (o ∷ xs) h = (h.0, tt)

looked_ends : (positive : Bool) (p : ℕ) (m : Marks) (xs : List Outcome) → AllEndAt p (looked positive p m xs)
looked_ends true p m [] = tt
looked_ends true p m (o ∷ xs) = (refl, tt)
looked_ends false p m [] = (refl, tt)
looked_ends false p m (o ∷ xs) = tt

choice_ends : (b : Bool) (e : ℕ) (xs ys : List Outcome) → AllEndAt e xs → AllEndAt e ys → AllEndAt e (elim b as (λ _. List Outcome) [ true ↦ xs | false ↦ ys ])
choice_ends true e xs ys h k = h
choice_ends false e xs ys h k = k

-- so many bodies of a width, and no optional one
times_end : (body : Onward) (greedy : Bool) (x : ℕ) → ((p : ℕ) (m : Marks) → AllEndAt (p + x) (body p m)) → (k p : ℕ) (m : Marks) → AllEndAt (p + k * x) (times_from body greedy k 0 p m)
times_end body greedy x h zero p m = (omega arith, tt)
times_end body greedy x h (suc k) p m =
    at_end (p + x + k * x) (p + suc k * x) (each_then (body p m) (times_from body greedy k 0)) (omega arith)
    (then_ends (p + x) (k * x) (body p m) (times_from body greedy k 0) (h p m) (times_end body greedy x h k))

mode_ends : (mode : CountMode) (body : Onward) (x : ℕ) → ((p : ℕ) (m : Marks) → AllEndAt (p + x) (body p m)) → (k p : ℕ) (m : Marks) → AllEndAt (p + k * x) (in_mode mode body k 0 p m)
mode_ends Greedy body x h k p m = times_end body true x h k p m
mode_ends Lazy body x h k p m = times_end body false x h k p m
mode_ends Possessive body x h k p m = first_ends (p + k * x) (times_from body true k 0 p m) (times_end body true x h k p m)

mutual
  pub width_ends : (n : ℕ) (names : Names) (r : PlainText) (s : List ℕ) (p k : ℕ) (m : Marks) → width r ≡ Some k → AllEndAt (p + k) (outcomes n names r s p m)
  width_ends n names (unit test) s p k m h = let e : 1 ≡ k = cc h in at_end (p + 1) (p + k) _ (ap (λ d. p + d) e) (only_ends _ (p + 1) m)
  width_ends n names (anchor kind) s p k m h = let e : 0 ≡ k = cc h in at_end p (p + k) _ (omega (arith, e)) (only_ends _ p m)
  width_ends n names (reference at id) s p k m h = let f : ⊥ = cc h in absurd f
  width_ends n names (conditional at id met) s p k m h =
      let w = common_some (width met) (Some 0) k h in
      let e : 0 ≡ k = cc w.1 in
      choice_ends (is_some (span_of m (number_of names id))) (p + k) (outcomes n names met s p m) (here p m) (width_ends n names met s p k m w.0) (omega (arith, e), tt)
  width_ends n names (conditional_else at id met other) s p k m h =
      let w = common_some (width met) (width other) k h in
      choice_ends (is_some (span_of m (number_of names id))) (p + k) (outcomes n names met s p m) (outcomes n names other s p m) (width_ends n names met s p k m w.0) (width_ends n names other s p k m w.1)
  width_ends n names (sequence parts) s p k m h = parts_end n names parts s p k m h
  width_ends n names (alternation branches) s p k m h = branches_end n names branches s p k m h
  width_ends n names (counted at least most mode body) s p k m h =
      let w = times_some least most (width body) k h in
      let none : optional_count n least most ≡ 0 = ap (optional_count n least) w.1 ∙ omega arith in
      at_end (p + least * w.0) (p + k) _ (omega (arith, w.3))
      (subst (λ j. AllEndAt (p + least * w.0) (in_mode mode (outcomes n names body s) least j p m)) (sym none)
      (mode_ends mode (outcomes n names body s) w.0 (λ q l. width_ends n names body s q w.0 l w.2) least p m))
  width_ends n names (capture at number name body) s p k m h = closing_ends number p (p + k) (outcomes n names body s p m) (width_ends n names body s p k m h)
  width_ends n names (plain at body) s p k m h = width_ends n names body s p k m h
  width_ends n names (atomic_text at body) s p k m h = first_ends (p + k) (outcomes n names body s p m) (width_ends n names body s p k m h)
  width_ends n names (look_text at positive false body) s p k m h = let e : 0 ≡ k = cc h in at_end p (p + k) _ (omega (arith, e)) (looked_ends positive p m _)
  width_ends n names (look_text at positive true body) s p k m h = let e : 0 ≡ k = cc h in at_end p (p + k) _ (omega (arith, e)) (looked_ends positive p m _)

  parts_end : (n : ℕ) (names : Names) (rs : PlainTexts) (s : List ℕ) (p k : ℕ) (m : Marks) → sum_of_widths rs ≡ Some k → AllEndAt (p + k) (outcomes_in_turn n names rs s p m)
  parts_end n names done s p k m h = let e : 0 ≡ k = cc h in (omega (arith, e), tt)
  parts_end n names (r also rs) s p k m h =
      let w = plus_some (width r) (sum_of_widths rs) k h in
      at_end (p + w.0 + w.1) (p + k) _ (omega (arith, w.4))
      (then_ends (p + w.0) w.1 (outcomes n names r s p m) (outcomes_in_turn n names rs s) (width_ends n names r s p w.0 m w.2) (λ q l. parts_end n names rs s q w.1 l w.3))

  branches_end : (n : ℕ) (names : Names) (rs : PlainTexts) (s : List ℕ) (p k : ℕ) (m : Marks) → common_width rs ≡ Some k → AllEndAt (p + k) (outcomes_of_each n names rs s p m)
  branches_end n names done s p k m h = tt
  branches_end n names (r also done) s p k m h = append_ends (p + k) (outcomes n names r s p m) [] (width_ends n names r s p k m h) tt
  branches_end n names (r also q also rs) s p k m h =
      let w = common_some (width r) (common_width (q also rs)) k h in
      append_ends (p + k) (outcomes n names r s p m) (outcomes_of_each n names (q also rs) s p m) (width_ends n names r s p k m w.0) (branches_end n names (q also rs) s p k m w.1)

-- where all end at p, those that end at p are all
pub all_kept : (p : ℕ) (xs : List Outcome) → AllEndAt p xs → ending_at p xs ≡ xs
all_kept p [] h = refl
all_kept p (o ∷ xs) h = ap (λ b. keep_if b o (ending_at p xs)) (eq-eqb o.0 p h.0) ∙ ap (λ l. o ∷ l) (all_kept p xs h.1)
