-- One turn of the loop that reads a literal.
use Rattle.std.proofs.Common.{◌≡◌, ◌∙◌, ◌==◌, ◌&&◌, ℕ, Bool, true, false, not, cond, if◌then◌else◌, List, [], ◌∷◌, ◌++◌, drop, length, ◌≤◌, ◌<◌, sym, ap, refl, arith, append_assoc, append-nil}
use Rattle.std.proofs.lemmas.List.Sums.{take_while-cons}
use Rattle.py_base.specs.Reading.{is_next}
use Rattle.py_spec.specs.Percent.Literals.{is_plain, plain, after_plain, put_first, literal}

-- units in front of what is still to be read of a literal
abbrev pub put_before : List ℕ → List ℕ × List ℕ → List ℕ × List ℕ
put_before text r = (text ++ r.0, r.1)

literal_on : (b : Bool) (c : ℕ) (cs : List ℕ) → (c == 37) ≡ b → b ≡ false → literal (c ∷ cs) ≡ put_first c (literal cs)
literal_on b c [] e f = ap (λ (b : Bool). if b then ([], c ∷ []) else (c ∷ [], [])) (e ∙ f)
literal_on b c (d ∷ cs) e f = ap (λ (b : Bool). if b then (if d == 37 then put_first 37 (literal cs) else ([], c ∷ d ∷ cs)) else put_first c (literal (d ∷ cs))) (e ∙ f)

pub literal_plain : (cs : List ℕ) → literal cs ≡ put_before (plain cs) (literal (after_plain cs))
literal_plain [] = refl
literal_plain (c ∷ cs) = by_test (c == 37) refl (literal_plain cs) where
  by_test : (b : Bool) → (c == 37) ≡ b → literal cs ≡ put_before (plain cs) (literal (after_plain cs)) → literal (c ∷ cs) ≡ put_before (plain (c ∷ cs)) (literal (after_plain (c ∷ cs)))
  by_test true e h =
      let taken : plain (c ∷ cs) ≡ [] = take_while-cons is_plain c cs ∙ ap (λ b. cond (not b) (c ∷ plain cs) []) e in
      let left : after_plain (c ∷ cs) ≡ c ∷ cs = ap (λ b. if not b then after_plain cs else c ∷ cs) e in
      sym (ap (λ t. put_before t (literal (after_plain (c ∷ cs)))) taken ∙ ap (λ l. put_before [] (literal l)) left)
  by_test false e h =
      let taken : plain (c ∷ cs) ≡ c ∷ plain cs = take_while-cons is_plain c cs ∙ ap (λ b. cond (not b) (c ∷ plain cs) []) e in
      let left : after_plain (c ∷ cs) ≡ after_plain cs = ap (λ b. if not b then after_plain cs else c ∷ cs) e in
      literal_on false c cs e refl ∙ ap (put_first c) h ∙ sym (ap (λ t. put_before t (literal (after_plain (c ∷ cs)))) taken ∙ ap (λ l. put_before (c ∷ plain cs) (literal l)) left)

pub put_twice : (text more : List ℕ) (r : List ℕ × List ℕ) → put_before text (put_before more r) ≡ put_before (text ++ more) r
put_twice text more r = ap (λ l. (l, r.1)) (sym (append_assoc text more r.0))

two : (a b : Bool) (c d : ℕ) (cs : List ℕ) → (a && b) ≡ true → (if a then (if b then put_first 37 (literal cs) else ([], c ∷ d ∷ cs)) else put_first c (literal (d ∷ cs))) ≡ put_first 37 (literal cs)
two true true c d cs h = refl
two true false c d cs h = let f : ⊥ = cc h in absurd f
two false b c d cs h = let f : ⊥ = cc h in absurd f

and_false : (b : Bool) → (b && false) ≡ true → ⊥
and_false true h = cc h
and_false false h = cc h

-- `%%` is a percent sign
pub literal_two : (cs : List ℕ) → (is_next 37 cs && is_next 37 (drop 1 cs)) ≡ true → literal cs ≡ put_first 37 (literal (drop 2 cs))
literal_two [] h = let f : ⊥ = cc h in absurd f
literal_two (c ∷ []) h = absurd (and_false (c == 37) h)
literal_two (c ∷ d ∷ cs) h = two (c == 37) (d == 37) c d cs h

-- one more turn: `%%`, and what is plain after it
pub percent_taken : (whole : List ℕ × List ℕ) (text pushed last cs rest after : List ℕ) → (is_next 37 cs && is_next 37 (drop 1 cs)) ≡ true → rest ≡ drop 2 cs → pushed ≡ text ++ 37 ∷ [] → last ≡ pushed ++ plain rest → after ≡ after_plain rest → whole ≡ put_before text (literal cs) → whole ≡ put_before last (literal after)
percent_taken whole text pushed last cs rest after h d p l a w =
    w ∙ ap (put_before text) (literal_two cs h) ∙ put_twice text (37 ∷ []) (literal (drop 2 cs)) ∙ ap (λ x. put_before (text ++ 37 ∷ []) (literal x)) (sym d)
    ∙ ap (λ x. put_before x (literal rest)) (sym p) ∙ ap (put_before pushed) (literal_plain rest) ∙ put_twice pushed (plain rest) (literal (after_plain rest))
    ∙ ap (λ x. put_before x (literal (after_plain rest))) (sym l) ∙ ap (λ x. put_before last (literal x)) (sym a)

pub begun : (cs text start after : List ℕ) → start ≡ [] → text ≡ start ++ plain cs → after ≡ after_plain cs → literal cs ≡ put_before text (literal after)
begun cs text start after n t a =
    literal_plain cs ∙ ap (λ x. put_before x (literal (after_plain cs))) (sym (t ∙ ap (λ x. x ++ plain cs) n)) ∙ ap (λ x. put_before text (literal x)) (sym a)

-- what is left after plain units is nothing, or begins with a percent sign
pub record Stopped (cs : List ℕ) : Type 0 where
  pub same : after_plain cs ≡ cs

again : (cs : List ℕ) → after_plain (after_plain cs) ≡ after_plain cs
again [] = refl
again (c ∷ cs) = by_test (c == 37) refl (again cs) where
  by_test : (b : Bool) → (c == 37) ≡ b → after_plain (after_plain cs) ≡ after_plain cs → after_plain (after_plain (c ∷ cs)) ≡ after_plain (c ∷ cs)
  by_test true e h = let left : after_plain (c ∷ cs) ≡ c ∷ cs = ap (λ b. if not b then after_plain cs else c ∷ cs) e in ap after_plain left
  by_test false e h = let left : after_plain (c ∷ cs) ≡ after_plain cs = ap (λ b. if not b then after_plain cs else c ∷ cs) e in ap after_plain left ∙ h ∙ sym left

pub stopped : (cs rest : List ℕ) → rest ≡ after_plain cs → Stopped rest
stopped cs rest e = record { same = ap after_plain e ∙ again cs ∙ sym e }

left_step : (d : ℕ) (ds : List ℕ) (b : Bool) → length (after_plain ds) ≤ length ds → length (if not b then after_plain ds else d ∷ ds) ≤ length (d ∷ ds)
left_step d ds true h = omega arith
left_step d ds false h = omega (arith, h)

left_length : (cs : List ℕ) → length (after_plain cs) ≤ length cs
left_length [] = omega arith
left_length (d ∷ ds) = left_step d ds (d == 37) (left_length ds)

shorter : (c : ℕ) (cs : List ℕ) → after_plain cs ≡ c ∷ cs → ⊥
shorter c cs e = omega (arith, left_length cs, ap length e)

two_units : (cs : List ℕ) → (is_next 37 cs && is_next 37 (drop 1 cs)) ≡ true → length (drop 2 cs) < length cs
two_units [] h = let f : ⊥ = cc h in absurd f
two_units (c ∷ []) h = omega arith
two_units (c ∷ d ∷ cs) h = omega arith

pub two_shorter : (cs rest after : List ℕ) → (is_next 37 cs && is_next 37 (drop 1 cs)) ≡ true → rest ≡ drop 2 cs → after ≡ after_plain rest → length after < length cs
two_shorter cs rest after h d a = omega (arith, ap length a, left_length rest, ap length d, two_units cs h)

ends_by : (a b : Bool) (c d : ℕ) (cs : List ℕ) → a ≡ true → (a && b) ≡ false → (if a then (if b then put_first 37 (literal cs) else ([], c ∷ d ∷ cs)) else put_first c (literal (d ∷ cs))) ≡ ([], c ∷ d ∷ cs)
ends_by true true c d cs t h = let f : ⊥ = cc h in absurd f
ends_by true false c d cs t h = refl
ends_by false b c d cs t h = let f : ⊥ = cc t in absurd f

percent_first : (b : Bool) (c : ℕ) (cs : List ℕ) → (c == 37) ≡ b → after_plain (c ∷ cs) ≡ c ∷ cs → (c == 37) ≡ true
percent_first true c cs e s = e
percent_first false c cs e s = absurd (shorter c cs (sym (ap (λ b. if not b then after_plain cs else c ∷ cs) e) ∙ s))

no_two : (cs : List ℕ) → after_plain cs ≡ cs → (is_next 37 cs && is_next 37 (drop 1 cs)) ≡ false → literal cs ≡ ([], cs)
no_two [] s h = refl
no_two (c ∷ []) s h = ap (λ (b : Bool). if b then ([], c ∷ []) else (c ∷ [], [])) (percent_first (c == 37) c [] refl s)
no_two (c ∷ d ∷ cs) s h = ends_by (c == 37) (d == 37) c d cs (percent_first (c == 37) c (d ∷ cs) refl s) h

pub literal_ends : (whole : List ℕ × List ℕ) (text cs rest : List ℕ) → Stopped cs → (is_next 37 cs && is_next 37 (drop 1 cs)) ≡ false → rest ≡ cs → whole ≡ put_before text (literal cs) → whole ≡ (text, rest)
literal_ends whole text cs rest s h e w =
    w ∙ ap (put_before text) (no_two cs s.same h) ∙ ap (λ x. (x, cs)) (append-nil text) ∙ ap (λ x. (text, x)) (sym e)
