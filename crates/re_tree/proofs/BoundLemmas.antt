-- How the bounds of a count are read, and what has none.
use Rattle.std.proofs.Common.{◌≡◌, refl, sym, ◌∙◌, ap, subst, ℕ, ◌+◌, ◌-◌, ◌*◌, ◌==◌, Bool, true, false, not, List, [], ◌∷◌, ◌++◌, append_assoc, arith}
use Rattle.std.specs.Prelude.{Option, Some, None, cond, ◌&&◌}
use Rattle.std.specs.List.{list_all}
use Rattle.std.proofs.lemmas.Bool.{eqb-true}
use Rattle.py_base.specs.Reading.{find}
use Rattle.re_tree.specs.Tables.{Sign, counts, signs}
use Rattle.re_tree.specs.Characters.{is_digit, first_is}
use Rattle.re_tree.specs.Grammar.{AreDigits, value, greatest_of, WritesBounds, by_sign, exactly, between, BeginsNoCount}
use Rattle.re_tree.specs.Reading.{digits_of, after_digits, Bounds, exact_at, most_at, bounds_at, read_bounds}

pub append_nil : (xs : List ℕ) → xs ++ [] ≡ xs
append_nil [] = refl
append_nil (x ∷ xs) = ap (λ l. x ∷ l) (append_nil xs)

pub cond_true : {X : Type 0} (b : Bool) (x y : X) → b ≡ true → cond b x y ≡ x
cond_true b x y e = ap (λ c. cond c x y) e

pub cond_false : {X : Type 0} (b : Bool) (x y : X) → b ≡ false → cond b x y ≡ y
cond_false b x y e = ap (λ c. cond c x y) e

pub and_left : (a b : Bool) → (a && b) ≡ true → a ≡ true
and_left true b h = refl
and_left false b h = h

pub and_right : (a b : Bool) → (a && b) ≡ true → b ≡ true
and_right true b h = h
and_right false b h = let f : ⊥ = cc h in absurd f

-- digits before what begins with none are all read
digits_of_all : (ds : List ℕ) (c : ℕ) (x : List ℕ) → AreDigits ds → is_digit c ≡ false → digits_of (ds ++ c ∷ x) ≡ ds
digits_of_all [] c x h k = cond_false (is_digit c) (c ∷ digits_of x) [] k
digits_of_all (d ∷ ds) c x h k =
    cond_true (is_digit d) (d ∷ digits_of (ds ++ c ∷ x)) [] (and_left (is_digit d) (list_all is_digit ds) h)
    ∙ ap (λ l. d ∷ l) (digits_of_all ds c x (and_right (is_digit d) (list_all is_digit ds) h) k)

behind_all : (ds : List ℕ) (c : ℕ) (x : List ℕ) → AreDigits ds → is_digit c ≡ false → after_digits (ds ++ c ∷ x) ≡ c ∷ x
behind_all [] c x h k = cond_false (is_digit c) (after_digits x) (c ∷ x) k
behind_all (d ∷ ds) c x h k =
    cond_true (is_digit d) (after_digits (ds ++ c ∷ x)) (d ∷ (ds ++ c ∷ x)) (and_left (is_digit d) (list_all is_digit ds) h)
    ∙ behind_all ds c x (and_right (is_digit d) (list_all is_digit ds) h) k

digits_split : (cs : List ℕ) → cs ≡ digits_of cs ++ after_digits cs
digits_split [] = refl
digits_split (c ∷ cs) = at (digits_split cs) (is_digit c)
  where
    at : cs ≡ digits_of cs ++ after_digits cs → (b : Bool) → c ∷ cs ≡ cond b (c ∷ digits_of cs) [] ++ cond b (after_digits cs) (c ∷ cs)
    at e true = ap (λ l. c ∷ l) e
    at e false = refl

digits_are : (cs : List ℕ) → AreDigits (digits_of cs)
digits_are [] = refl
digits_are (c ∷ cs) = at (digits_are cs) (is_digit c) refl
  where
    at : AreDigits (digits_of cs) → (b : Bool) → is_digit c ≡ b → AreDigits (cond b (c ∷ digits_of cs) [])
    at h true e = ap (λ b. b && list_all is_digit (digits_of cs)) e ∙ h
    at h false e = refl

-- bounds in braces are read
pub exactly_read : (d : ℕ) (ds x : List ℕ) → AreDigits (d ∷ ds) → read_bounds (d ∷ (ds ++ 125 ∷ x)) ≡ Some (value (d ∷ ds), Some (value (d ∷ ds)), x)
exactly_read d ds x h =
    ap (λ l. bounds_at l (after_digits (d ∷ (ds ++ 125 ∷ x)))) (digits_of_all (d ∷ ds) 125 x h refl)
    ∙ ap (bounds_at (d ∷ ds)) (behind_all (d ∷ ds) 125 x h refl)

pub between_read : (ds es x : List ℕ) → AreDigits ds → AreDigits es → read_bounds (ds ++ 44 ∷ (es ++ 125 ∷ x)) ≡ Some (value ds, greatest_of es, x)
between_read ds es x h k =
    ap (λ l. bounds_at l (after_digits (ds ++ 44 ∷ (es ++ 125 ∷ x)))) (digits_of_all ds 44 (es ++ 125 ∷ x) h refl)
    ∙ ap (bounds_at ds) (behind_all ds 44 (es ++ 125 ∷ x) h refl)
    ∙ (λ i. most_at (value ds) (greatest_of (digits_of_all es 125 x k refl i)) (behind_all es 125 x k refl i))

-- and what is read are bounds
pub record Bounded (cs : List ℕ) (least : ℕ) (most : Option ℕ) (x : List ℕ) : Type 0 where
  pub written : List ℕ
  pub writes : WritesBounds least most written
  pub text : 123 ∷ cs ≡ written ++ x

abbrev three_of : Bounds → ℕ × Option ℕ × List ℕ
three_of None = (0, None, [])
three_of (Some b) = b

same_three : (a d : ℕ) (b e : Option ℕ) (c f : List ℕ) → ◌≡◌ {A = Bounds} (Some (a, b, c)) (Some (d, e, f)) → (a ≡ d) × (b ≡ e) × (c ≡ f)
same_three a d b e c f h = (ap (λ o. (three_of o).0) h, ap (λ o. (three_of o).1) h, ap (λ o. (three_of o).2) h)

exact_is : (ds cs x : List ℕ) (least : ℕ) (most : Option ℕ) → AreDigits ds → exact_at ds cs ≡ Some (least, most, x) → Bounded (ds ++ 125 ∷ cs) least most x
exact_is [] cs x least most h e = let f : ⊥ = cc e in absurd f
exact_is (d ∷ ds) cs x least most h e =
    let q = same_three (value (d ∷ ds)) least (Some (value (d ∷ ds))) most cs x e in
    record {
      written = 123 ∷ d ∷ (ds ++ 125 ∷ []);
      writes = exactly d ds h (sym q.0) (sym q.1) refl;
      text = ap (λ l. 123 ∷ d ∷ (ds ++ 125 ∷ l)) q.2 ∙ ap (λ l. 123 ∷ d ∷ l) (sym (append_assoc ds (125 ∷ []) x));
    }

most_is : (ds es cs x : List ℕ) (n least : ℕ) (m most : Option ℕ) → AreDigits ds → AreDigits es → n ≡ value ds → m ≡ greatest_of es → most_at n m cs ≡ Some (least, most, x) → Bounded (ds ++ 44 ∷ (es ++ cs)) least most x
most_is ds es [] x n least m most h k i j e = let f : ⊥ = cc e in absurd f
most_is ds es (c ∷ cs) x n least m most h k i j e = at (c == 125) refl
  where
    at : (b : Bool) → (c == 125) ≡ b → Bounded (ds ++ 44 ∷ (es ++ c ∷ cs)) least most x
    at true t =
        let q = same_three n least m most cs x (sym (cond_true (c == 125) (Some (n, m, cs)) None t) ∙ e) in
        let u : c ≡ 125 = eqb-true c 125 t in
        record {
          written = 123 ∷ (ds ++ 44 ∷ (es ++ 125 ∷ []));
          writes = between ds es h k (sym q.0 ∙ i) (sym q.1 ∙ j) refl;
          text =
              (λ z. 123 ∷ (ds ++ 44 ∷ (es ++ u z ∷ q.2 z))) ∙ ap (λ l. 123 ∷ (ds ++ 44 ∷ l)) (sym (append_assoc es (125 ∷ []) x))
              ∙ ap (λ l. 123 ∷ l) (sym (append_assoc ds (44 ∷ (es ++ 125 ∷ [])) x));
        }
    at false t = let f : ⊥ = cc (sym (cond_false (c == 125) (Some (n, m, cs)) None t) ∙ e) in absurd f

abbrev more_of : List ℕ → List ℕ → Bounds
more_of ds cs = most_at (value ds) (greatest_of (digits_of cs)) (after_digits cs)

bounds_are : (ds cs x : List ℕ) (least : ℕ) (most : Option ℕ) → AreDigits ds → bounds_at ds cs ≡ Some (least, most, x) → Bounded (ds ++ cs) least most x
bounds_are ds [] x least most h e = let f : ⊥ = cc e in absurd f
bounds_are ds (c ∷ cs) x least most h e = at (c == 125) (c == 44) refl refl
  where
    at : (a b : Bool) → (c == 125) ≡ a → (c == 44) ≡ b → Bounded (ds ++ c ∷ cs) least most x
    at true b s t =
        subst (λ k. Bounded (ds ++ k ∷ cs) least most x) (sym (eqb-true c 125 s))
        (exact_is ds cs x least most h (sym (cond_true (c == 125) (exact_at ds cs) (cond (c == 44) (more_of ds cs) None) s) ∙ e))
    at false true s t =
        subst (λ k. Bounded (ds ++ k ∷ cs) least most x) (sym (eqb-true c 44 t))
        (subst (λ l. Bounded (ds ++ 44 ∷ l) least most x) (sym (digits_split cs))
        (most_is ds (digits_of cs) (after_digits cs) x (value ds) least (greatest_of (digits_of cs)) most h (digits_are cs) refl refl
        (sym (cond_true (c == 44) (more_of ds cs) None t) ∙ sym (cond_false (c == 125) (exact_at ds cs) (cond (c == 44) (more_of ds cs) None) s) ∙ e)))
    at false false s t =
        let f : ⊥ = cc (sym (cond_false (c == 44) (more_of ds cs) None t) ∙ sym (cond_false (c == 125) (exact_at ds cs) (cond (c == 44) (more_of ds cs) None) s) ∙ e) in absurd f

pub read_is : (cs x : List ℕ) (least : ℕ) (most : Option ℕ) → read_bounds cs ≡ Some (least, most, x) → Bounded cs least most x
read_is cs x least most e = subst (λ l. Bounded l least most x) (sym (digits_split cs)) (bounds_are (digits_of cs) (after_digits cs) x least most (digits_are cs) e)
