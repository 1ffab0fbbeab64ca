-- A text without a fault fits.
use Rattle.std.proofs.Common.{◌≡◌, refl, sym, ◌∙◌, ap, subst, ℕ, ◌+◌, ◌≤◌, ◌<◌, ◌==◌, Bool, true, false, not, List, [], ◌∷◌, ◌++◌, append_assoc, append-nil, arith}
use Rattle.std.specs.Prelude.{Option, Some, None, nat_le, nat_lt, nat_eq, ◌&&◌, ◌||◌, cond}
use lib.Pointwise.{pointwise}
use Rattle.std.proofs.lemmas.Bool.{ltb-false, leb-false, eqb-true}
use Rattle.std.proofs.lemmas.Bool.Decides.{nat_tests}
use Rattle.sre_code.specs.Spelling.{IsGroup}
use Rattle.re_tree.specs.PlainText.{GroupName, numbered, named, PlainText, PlainTexts, unit, anchor, reference, conditional, conditional_else, sequence, alternation, counted, capture, plain, atomic_text, look_text, done, ◌also◌, Names, name_of, names_of, all_names, find_name, number_of, captures, all_captures}
use Rattle.re_tree.specs.Grammar.{IsRegex, IsBranch, IsPiece, ArePieces, AreBranches}
use Rattle.re_tree.specs.Widths.{width}
use Rattle.re_tree.specs.declared.fault.Fault.{Fault}
use Rattle.re_tree.specs.declared.fault.FaultKind.{FaultKind}
use Rattle.re_tree.specs.declared.fault.FaultKind.TheVariants.{TooDeep, TooManyGroups, BadName, BadCount, BadReference, NotFixedWidth}
use Rattle.re_tree.specs.Tokens.{Opening, capturing, non_capturing, atomic_opening, look_opening, conditional_opening}
use Rattle.re_tree.specs.Faults.{is_identifier, only_if, Where, outermost, has_number, has_name, numbers_of, all_numbers, names_at, inside, after, is_closed, deep, at_reference, of_opening, at_opening, is_bad_count, at_count, at_close, faults, faults_in_turn, conditional_of, conditionals, all_conditionals, is_past, conditional_faults, is_before, the_first, first_of, all_faults, fault_of}
use Rattle.re_text.specs.Fits.{count_fits, back_fits, text_fits, texts_fit, parens, all_parens, kinds_fit, all_kinds_fit}

front_none : (xs ys : List Fault) → xs ++ ys ≡ [] → xs ≡ []
front_none [] ys e = refl
front_none (x ∷ xs) ys e = let f : ⊥ = cc e in absurd f

back_none : (xs ys : List Fault) → xs ++ ys ≡ [] → ys ≡ []
back_none [] ys e = e
back_none (x ∷ xs) ys e = let f : ⊥ = cc e in absurd f

not_if : (b : Bool) (at : ℕ) (kind : FaultKind) → only_if b at kind ≡ [] → b ≡ false
not_if true at kind e = let f : ⊥ = cc e in absurd f
not_if false at kind e = refl

first_none : (a : Fault) (o : Option Fault) → the_first a o ≡ None → ⊥
first_none a None e = cc e
first_none a (Some b) e = at (is_before b a) e
  where
    at : (t : Bool) → cond t (Some b) (Some a) ≡ None → ⊥
    at true h = cc h
    at false h = cc h

none_first : (xs : List Fault) → first_of xs ≡ None → xs ≡ []
none_first [] e = refl
none_first (x ∷ xs) e = absurd (first_none x (first_of xs) e)

or_left : (a b : Bool) → (a || b) ≡ false → a ≡ false
or_left true b h = h
or_left false b h = refl

or_right : (a b : Bool) → (a || b) ≡ false → b ≡ false
or_right true b h = let f : ⊥ = cc h in absurd f
or_right false b h = h

and_left : (a b : Bool) → (a && b) ≡ true → a ≡ true
and_left true b h = refl
and_left false b h = h

and_right : (a b : Bool) → (a && b) ≡ true → b ≡ true
and_right true b h = h
and_right false b h = let f : ⊥ = cc h in absurd f

not_false : (b : Bool) → not b ≡ false → b ≡ true
not_false true h = refl
not_false false h = let f : ⊥ = cc h in absurd f

count_is_good : (least : ℕ) (most : Option ℕ) → is_bad_count least most ≡ false → count_fits least most
count_is_good least None h = omega (arith, ltb-false 4294967294 least h)
count_is_good least (Some most) h =
    let a = or_left (nat_lt 4294967294 least || nat_lt 4294967294 most) (nat_lt most least) h in
    let b = ltb-false 4294967294 most (or_right (nat_lt 4294967294 least) (nat_lt 4294967294 most) a) in
    let c = ltb-false most least (or_right (nat_lt 4294967294 least || nat_lt 4294967294 most) (nat_lt most least) h) in
    (omega (arith, c), omega (arith, b))

back_is_good : (positive back : Bool) (at : ℕ) (w : Option ℕ) → at_close at (look_opening positive back) w ≡ [] → back_fits back w
back_is_good positive false at w h = tt
back_is_good positive true at None h = let f : ⊥ = cc h in absurd f
back_is_good positive true at (Some k) h = omega (arith, ltb-false 4294967295 k (not_if (nat_lt 4294967295 k) at NotFixedWidth h))

-- names that are there stay the first ones
kept_name : (a b : Names) (name : List ℕ) → 1 ≤ find_name a name → find_name (a ++ b) name ≡ find_name a name
kept_name [] b name h = let f : ⊥ = omega (arith, h) in absurd f
kept_name (x ∷ a) b name h = at (pointwise nat_eq x.0 name) refl (kept_name a b name)
  where
    at : (t : Bool) → pointwise nat_eq x.0 name ≡ t → (1 ≤ find_name a name → find_name (a ++ b) name ≡ find_name a name)
        → cond (pointwise nat_eq x.0 name) x.1 (find_name (a ++ b) name) ≡ cond (pointwise nat_eq x.0 name) x.1 (find_name a name)
    at true e ih = ap (λ t. cond t x.1 (find_name (a ++ b) name)) e ∙ sym (ap (λ t. cond t x.1 (find_name a name)) e)
    at false e ih =
        let k : find_name (x ∷ a) name ≡ find_name a name = ap (λ t. cond t x.1 (find_name a name)) e in
        ap (λ t. cond t x.1 (find_name (a ++ b) name)) e ∙ ih (omega (arith, h, k)) ∙ sym k

-- each number of a name is from 1 to n
abbrev AreNumbers : ℕ → Names → Type 0
AreNumbers n [] = Unit {0}
AreNumbers n (x ∷ names) = (1 ≤ x.1) × (x.1 ≤ n) × AreNumbers n names

more_numbers : (m n : ℕ) (names : Names) → m ≤ n → AreNumbers m names → AreNumbers n names
more_numbers m n [] le h = tt
more_numbers m n (x ∷ names) le h = (h.0, omega (arith, h.1, le), more_numbers m n names le h.2)

both_numbers : (n : ℕ) (a b : Names) → AreNumbers n a → AreNumbers n b → AreNumbers n (a ++ b)
both_numbers n [] b h k = k
both_numbers n (x ∷ a) b h k = (h.0, h.1, both_numbers n a b h.2 k)

named_number : (n : ℕ) (a : Names) (name : List ℕ) → AreNumbers n a → has_name a name ≡ true → (1 ≤ find_name a name) × (find_name a name ≤ n)
named_number n [] name h k = let f : ⊥ = cc k in absurd f
named_number n (x ∷ a) name h k = at (pointwise nat_eq x.0 name) k (named_number n a name h.2)
  where
    at : (t : Bool) → (t || has_name a name) ≡ true → (has_name a name ≡ true → (1 ≤ find_name a name) × (find_name a name ≤ n))
        → (1 ≤ cond t x.1 (find_name a name)) × (cond t x.1 (find_name a name) ≤ n)
    at true e ih = (h.0, h.1)
    at false e ih = ih e

own_number : (name : Option (List ℕ)) (number n : ℕ) → 1 ≤ number → number ≤ n → AreNumbers n (name_of name number)
own_number None number n h k = tt
own_number (Some name) number n h k = (h, k, tt)

mutual
  piece_numbers : (r : PlainText) (g : ℕ) → IsPiece g r → AreNumbers (g + captures r) (names_of r)
  piece_numbers (unit test) g h = tt
  piece_numbers (anchor k) g h = tt
  piece_numbers (reference at id) g h = tt
  piece_numbers (conditional at id met) g h = branch_numbers met g h
  piece_numbers (conditional_else at id met other) g h =
      both_numbers (g + (captures met + captures other)) (names_of met) (names_of other)
      (more_numbers (g + captures met) _ (names_of met) (omega arith) (branch_numbers met g h.0)) (more_numbers (g + captures met + captures other) _ (names_of other) (omega arith) (branch_numbers other (g + captures met) h.1))
  piece_numbers (counted at least most mode body) g h = piece_numbers body g h.1
  piece_numbers (capture at number name body) g h =
      both_numbers (g + (captures body + 1)) (name_of name number) (names_of body) (own_number name number _ (omega (arith, h.0)) (omega (arith, h.0)))
      (more_numbers (g + 1 + captures body) _ (names_of body) (omega arith) (regex_numbers body (g + 1) h.1))
  piece_numbers (plain at body) g h = regex_numbers body g h
  piece_numbers (atomic_text at body) g h = regex_numbers body g h
  piece_numbers (look_text at positive back body) g h = regex_numbers body g h
  piece_numbers (sequence parts) g h = absurd h
  piece_numbers (alternation branches) g h = absurd h

  pieces_numbers : (rs : PlainTexts) (g : ℕ) → ArePieces g rs → AreNumbers (g + all_captures rs) (all_names rs)
  pieces_numbers done g h = tt
  pieces_numbers (r also rs) g h =
      both_numbers (g + (captures r + all_captures rs)) (names_of r) (all_names rs) (more_numbers (g + captures r) _ (names_of r) (omega arith) (piece_numbers r g h.0))
      (more_numbers (g + captures r + all_captures rs) _ (all_names rs) (omega arith) (pieces_numbers rs (g + captures r) h.1))

  branch_numbers : (r : PlainText) (g : ℕ) → IsBranch g r → AreNumbers (g + captures r) (names_of r)
  branch_numbers (sequence parts) g h = pieces_numbers parts g h
  branch_numbers _ g h = absurd h

  branches_numbers : (rs : PlainTexts) (g : ℕ) → AreBranches g rs → AreNumbers (g + all_captures rs) (all_names rs)
  branches_numbers done g h = tt
  branches_numbers (r also rs) g h =
      both_numbers (g + (captures r + all_captures rs)) (names_of r) (all_names rs) (more_numbers (g + captures r) _ (names_of r) (omega arith) (branch_numbers r g h.0))
      (more_numbers (g + captures r + all_captures rs) _ (all_names rs) (omega arith) (branches_numbers rs (g + captures r) h.1))

  regex_numbers : (r : PlainText) (g : ℕ) → IsRegex g r → AreNumbers (g + captures r) (names_of r)
  regex_numbers (sequence parts) g h = pieces_numbers parts g h
  regex_numbers (alternation (r also q also rs)) g h = branches_numbers (r also q also rs) g h
  regex_numbers _ g h = absurd h

-- each number is from 1 to n
abbrev AreIn : ℕ → List ℕ → Type 0
AreIn n [] = Unit {0}
AreIn n (k ∷ ks) = (1 ≤ k) × (k ≤ n) × AreIn n ks

more_in : (m n : ℕ) (ks : List ℕ) → m ≤ n → AreIn m ks → AreIn n ks
more_in m n [] le h = tt
more_in m n (k ∷ ks) le h = (h.0, omega (arith, h.1, le), more_in m n ks le h.2)

both_in : (n : ℕ) (a b : List ℕ) → AreIn n a → AreIn n b → AreIn n (a ++ b)
both_in n [] b h k = k
both_in n (x ∷ a) b h k = (h.0, h.1, both_in n a b h.2 k)

found_in : (n m : ℕ) (ks : List ℕ) → AreIn n ks → has_number m ks ≡ true → (1 ≤ m) × (m ≤ n)
found_in n m [] h e = let f : ⊥ = cc e in absurd f
found_in n m (k ∷ ks) h e = at (k == m) refl e (found_in n m ks h.2)
  where
    at : (t : Bool) → (k == m) ≡ t → (t || has_number m ks) ≡ true → (has_number m ks ≡ true → (1 ≤ m) × (m ≤ n)) → (1 ≤ m) × (m ≤ n)
    at true f g ih = let q : k ≡ m = eqb-true k m f in (omega (arith, q, h.0), omega (arith, q, h.1))
    at false f g ih = ih g

mutual
  piece_closed : (r : PlainText) (g : ℕ) → IsPiece g r → AreIn (g + captures r) (numbers_of r)
  piece_closed (unit test) g h = tt
  piece_closed (anchor k) g h = tt
  piece_closed (reference at id) g h = tt
  piece_closed (conditional at id met) g h = branch_closed met g h
  piece_closed (conditional_else at id met other) g h =
      both_in (g + (captures met + captures other)) (numbers_of met) (numbers_of other)
      (more_in (g + captures met) _ (numbers_of met) (omega arith) (branch_closed met g h.0)) (more_in (g + captures met + captures other) _ (numbers_of other) (omega arith) (branch_closed other (g + captures met) h.1))
  piece_closed (counted at least most mode body) g h = piece_closed body g h.1
  piece_closed (capture at number name body) g h =
      both_in (g + (captures body + 1)) (numbers_of body) (number ∷ []) (more_in (g + 1 + captures body) _ (numbers_of body) (omega arith) (regex_closed body (g + 1) h.1))
      (omega (arith, h.0), omega (arith, h.0), tt)
  piece_closed (plain at body) g h = regex_closed body g h
  piece_closed (atomic_text at body) g h = regex_closed body g h
  piece_closed (look_text at positive back body) g h = regex_closed body g h
  piece_closed (sequence parts) g h = absurd h
  piece_closed (alternation branches) g h = absurd h

  pieces_closed : (rs : PlainTexts) (g : ℕ) → ArePieces g rs → AreIn (g + all_captures rs) (all_numbers rs)
  pieces_closed done g h = tt
  pieces_closed (r also rs) g h =
      both_in (g + (captures r + all_captures rs)) (numbers_of r) (all_numbers rs) (more_in (g + captures r) _ (numbers_of r) (omega arith) (piece_closed r g h.0))
      (more_in (g + captures r + all_captures rs) _ (all_numbers rs) (omega arith) (pieces_closed rs (g + captures r) h.1))

  branch_closed : (r : PlainText) (g : ℕ) → IsBranch g r → AreIn (g + captures r) (numbers_of r)
  branch_closed (sequence parts) g h = pieces_closed parts g h
  branch_closed _ g h = absurd h

  branches_closed : (rs : PlainTexts) (g : ℕ) → AreBranches g rs → AreIn (g + all_captures rs) (all_numbers rs)
  branches_closed done g h = tt
  branches_closed (r also rs) g h =
      both_in (g + (captures r + all_captures rs)) (numbers_of r) (all_numbers rs) (more_in (g + captures r) _ (numbers_of r) (omega arith) (branch_closed r g h.0))
      (more_in (g + captures r + all_captures rs) _ (all_numbers rs) (omega arith) (branches_closed rs (g + captures r) h.1))

  regex_closed : (r : PlainText) (g : ℕ) → IsRegex g r → AreIn (g + captures r) (numbers_of r)
  regex_closed (sequence parts) g h = pieces_closed parts g h
  regex_closed (alternation (r also q also rs)) g h = branches_closed (r also q also rs) g h
  regex_closed _ g h = absurd h

-- what is known where a part is after g groups
pub record Stood (all g : ℕ) (w : Where) : Type 0 where
  pub numbers : AreNumbers all w.names
  pub ended : AreIn all w.closed
  pub depth : w.depth ≤ 60
  pub few : g ≤ 65535

-- and of a part without a fault
pub record Good (all : ℕ) (names : Names) (g : ℕ) (w : Where) (r : PlainText) : Type 0 where
  pub fits : text_fits names all r
  pub nested : w.depth + parens r ≤ 60
  pub few : g + captures r ≤ 65535

pub record AllGood (all : ℕ) (names : Names) (g : ℕ) (w : Where) (rs : PlainTexts) : Type 0 where
  pub fits : texts_fit names all rs
  pub nested : w.depth + all_parens rs ≤ 60
  pub few : g + all_captures rs ≤ 65535

shallow : (w : Where) (at : ℕ) → deep w at ≡ [] → w.depth < 60
shallow w at e = leb-false 60 w.depth (not_if (nat_le 60 w.depth) at TooDeep e)

-- of an opening without a fault
open_front : (w : Where) (at number : ℕ) (o : Opening) (x : List Fault) → at_opening w at number o ++ x ≡ [] → (w.depth < 60) × (of_opening w at number o ≡ []) × (x ≡ [])
open_front w at number o x e =
    let a = front_none (at_opening w at number o) x e in
    (shallow w at (front_none (deep w at) (of_opening w at number o) a), back_none (deep w at) (of_opening w at number o) a, back_none (at_opening w at number o) x e)

closed_reference : (w : Where) (at : ℕ) (id : GroupName) → at_reference w at id ≡ [] → is_closed w id ≡ true
closed_reference w at (numbered n) e = not_false (is_closed w (numbered n)) (not_if (not (is_closed w (numbered n))) at BadReference e)
closed_reference w at (named name) e =
    let a = only_if (not (is_identifier name)) at BadName in
    let b = only_if (not (is_closed w (named name))) at BadReference in
    not_false (is_closed w (named name)) (not_if (not (is_closed w (named name))) at BadReference (back_none a b (back_none (deep w at) (a ++ b) e)))

few_groups : (w : Where) (at number : ℕ) (name : Option (List ℕ)) → of_opening w at number (capturing name) ≡ [] → number ≤ 65535
few_groups w at number None e = ltb-false 65535 number (not_if (nat_lt 65535 number) at TooManyGroups e)
few_groups w at number (Some name) e =
    ltb-false 65535 number (not_if (nat_lt 65535 number) at TooManyGroups (front_none (only_if (nat_lt 65535 number) at TooManyGroups) (only_if (not (is_identifier name) || has_name w.names name) at BadName) e))

reference_good : (id : GroupName) (all : ℕ) (names later : Names) (w : Where) → is_closed w id ≡ true → AreIn all w.closed → names ≡ w.names ++ later → IsGroup all (number_of names id)
reference_good (numbered n) all names later w h c e = found_in all n w.closed c h
reference_good (named name) all names later w h c e =
    let k : IsGroup all (find_name w.names name) = found_in all (find_name w.names name) w.closed c h in
    subst (IsGroup all) (sym (ap (λ l. find_name l name) e ∙ kept_name w.names later name k.0)) k

choice_good : (id : GroupName) (all at number : ℕ) (names later : Names) (w : Where) → of_opening w at number (conditional_opening id) ≡ [] → conditional_faults all (conditional_of at id) ≡ [] → AreNumbers all w.names → names ≡ w.names ++ later → IsGroup all (number_of names id)
choice_good (numbered n) all at number names later w o f k e =
    let p = not_if (is_past all n) at BadReference (front_none (only_if (is_past all n) at BadReference) [] f) in
    let z : (n == 0) ≡ false = or_left (n == 0) (nat_lt all n) p in
    let q : n ≤ all = ltb-false all n (or_right (n == 0) (nat_lt all n) p) in
    (grind (arith, nat_tests, z), q)
choice_good (named name) all at number names later w o f k e =
    let b = only_if (not (has_name w.names name)) at BadReference in
    let h = not_false (has_name w.names name) (not_if (not (has_name w.names name)) at BadReference (back_none (only_if (not (is_identifier name)) at BadName) b o)) in
    let g : IsGroup all (find_name w.names name) = named_number all w.names name k h in
    subst (IsGroup all) (sym (ap (λ l. find_name l name) e ∙ kept_name w.names later name g.0)) g

choices_split : (all : ℕ) (xs ys : List (ℕ × ℕ)) → conditional_faults all (xs ++ ys) ≡ conditional_faults all xs ++ conditional_faults all ys
choices_split all [] ys = refl
choices_split all (x ∷ xs) ys = ap (λ l. only_if (is_past all x.1) x.0 BadReference ++ l) (choices_split all xs ys) ∙ sym (append_assoc (only_if (is_past all x.1) x.0 BadReference) (conditional_faults all xs) (conditional_faults all ys))

front_choices : (all : ℕ) (xs ys : List (ℕ × ℕ)) → conditional_faults all (xs ++ ys) ≡ [] → conditional_faults all xs ≡ []
front_choices all xs ys e = front_none (conditional_faults all xs) (conditional_faults all ys) (sym (choices_split all xs ys) ∙ e)

back_choices : (all : ℕ) (xs ys : List (ℕ × ℕ)) → conditional_faults all (xs ++ ys) ≡ [] → conditional_faults all ys ≡ []
back_choices all xs ys e = back_none (conditional_faults all xs) (conditional_faults all ys) (sym (choices_split all xs ys) ∙ e)

-- inside an opening that begins no name
deeper_stands : (all g number : ℕ) (w : Where) (o : Opening) → names_at number o ≡ [] → Stood all g w → w.depth < 60 → Stood all g (inside w number o)
deeper_stands all g number w o n s h = record { numbers = both_numbers all w.names (names_at number o) s.numbers (subst (AreNumbers all) (sym n) tt); ended = s.ended; depth = omega (arith, h); few = s.few }

-- after a piece
after_stands : (all g : ℕ) (w : Where) (r : PlainText) → AreNumbers (g + captures r) (names_of r) → AreIn (g + captures r) (numbers_of r) → g + captures r ≤ all → g + captures r ≤ 65535 → Stood all g w → Stood all (g + captures r) (after w r)
after_stands all g w r h c le few s = record {
  numbers = both_numbers all w.names (names_of r) s.numbers (more_numbers (g + captures r) all (names_of r) le h);
  ended = both_in all w.closed (numbers_of r) s.ended (more_in (g + captures r) all (numbers_of r) le c);
  depth = s.depth;
  few = few;
}

-- what is asked of a part
abbrev Asked : ℕ → ℕ → Where → Names → Names → List Fault → List (ℕ × ℕ) → Names → ℕ → Type 0
Asked all g w names later found chosen own n = (found ≡ []) × (conditional_faults all chosen ≡ []) × (names ≡ w.names ++ (own ++ later)) × (g + n ≤ all) × Stood all g w

no_name : (w : Names) (x later names : Names) → names ≡ w ++ (x ++ later) → names ≡ (w ++ []) ++ (x ++ later)
no_name w x later names e = e ∙ ap (λ l. l ++ (x ++ later)) (sym (append-nil w))

mutual
  piece_good : (r : PlainText) (all g : ℕ) (w : Where) (names later : Names) → IsPiece g r → kinds_fit r → Asked all g w names later (faults w r) (conditionals r) (names_of r) (captures r) → Good all names g w r
  piece_good (unit test) all g w names later h k a = record { fits = k; nested = omega (arith, a.4.depth); few = omega (arith, a.4.few) }
  piece_good (anchor n) all g w names later h k a = record { fits = k; nested = omega (arith, a.4.depth); few = omega (arith, a.4.few) }
  piece_good (reference at id) all g w names later h k a = record {
    fits = reference_good id all names later w (closed_reference w at id a.0) a.4.ended a.2;
    nested = omega (arith, a.4.depth);
    few = omega (arith, a.4.few);
  }
  piece_good (conditional at id met) all g w names later h k a =
      let o = open_front w at 0 (conditional_opening id) (faults (inside w 0 (conditional_opening id)) met) a.0 in
      let m : Good all names g (inside w 0 (conditional_opening id)) met = branch_good met all g (inside w 0 (conditional_opening id)) names later h k
      (o.2, back_choices all (conditional_of at id) (conditionals met) a.1, no_name w.names (names_of met) later names a.2, a.3, deeper_stands all g 0 w (conditional_opening id) refl a.4 o.0) in
      record { fits = (choice_good id all at 0 names (names_of met ++ later) w o.1 (front_choices all (conditional_of at id) (conditionals met) a.1) a.4.numbers a.2, m.fits); nested = omega (arith, m.nested); few = m.few }
  piece_good (conditional_else at id met other) all g w names later h k a =
      let v = inside w 0 (conditional_opening id) in
      let o = open_front w at 0 (conditional_opening id) (faults v met ++ faults (after v met) other) a.0 in
      let c = back_choices all (conditional_of at id) (conditionals met ++ conditionals other) a.1 in
      let t = deeper_stands all g 0 w (conditional_opening id) refl a.4 o.0 in
      let e1 : names ≡ w.names ++ (names_of met ++ (names_of other ++ later)) = a.2 ∙ simp append_assoc in
      let e2 : names ≡ ((w.names ++ []) ++ names_of met) ++ (names_of other ++ later) = no_name w.names (names_of met) (names_of other ++ later) names e1 ∙ simp append_assoc in
      let m : Good all names g v met = branch_good met all g v names (names_of other ++ later) h.0 k.0
      (front_none (faults v met) (faults (after v met) other) o.2, front_choices all (conditionals met) (conditionals other) c, no_name w.names (names_of met) (names_of other ++ later) names e1, omega (arith, a.3), t) in
      let j : Stood all (g + captures met) (after v met) = after_stands all g v met (branch_numbers met g h.0) (branch_closed met g h.0) (omega (arith, a.3)) m.few t in
      let n : Good all names (g + captures met) (after v met) other = branch_good other all (g + captures met) (after v met) names later h.1 k.1
      (back_none (faults v met) (faults (after v met) other) o.2, back_choices all (conditionals met) (conditionals other) c, e2, omega (arith, a.3), j) in
      record { fits = (choice_good id all at 0 names ((names_of met ++ names_of other) ++ later) w o.1 (front_choices all (conditional_of at id) (conditionals met ++ conditionals other) a.1) a.4.numbers a.2, m.fits, n.fits); nested = omega (arith, m.nested, n.nested); few = omega (arith, n.few) }
  piece_good (counted at least most mode body) all g w names later h k a =
      let m : Good all names g w body = piece_good body all g w names later h.1 k (front_none (faults w body) (at_count at least most) a.0, a.1, a.2, a.3, a.4) in
      record { fits = (count_is_good least most (not_if (is_bad_count least most) at BadCount (back_none (faults w body) (at_count at least most) a.0)), m.fits); nested = m.nested; few = m.few }
  piece_good (capture at number name body) all g w names later h k a =
      let v = inside w number (capturing name) in
      let o = open_front w at number (capturing name) (faults v body) a.0 in
      let n = few_groups w at number name o.1 in
      let t : Stood all (g + 1) v = record {
        numbers = both_numbers all w.names (name_of name number) a.4.numbers (own_number name number all (omega (arith, h.0)) (omega (arith, h.0, a.3)));
        ended = a.4.ended;
        depth = omega (arith, o.0);
        few = omega (arith, n, h.0);
      } in
      let e1 : names ≡ (w.names ++ name_of name number) ++ (names_of body ++ later) = a.2 ∙ simp append_assoc in
      let m : Good all names (g + 1) v body = regex_good body all (g + 1) v names later h.1 k (o.2, a.1, e1, omega (arith, a.3), t) in
      record { fits = ((omega (arith, h.0), omega (arith, h.0, a.3)), m.fits); nested = omega (arith, m.nested); few = omega (arith, m.few) }
  piece_good (plain at body) all g w names later h k a =
      let o = open_front w at 0 non_capturing (faults (inside w 0 non_capturing) body) a.0 in
      let m : Good all names g (inside w 0 non_capturing) body = regex_good body all g (inside w 0 non_capturing) names later h k (o.2, a.1, no_name w.names (names_of body) later names a.2, a.3, deeper_stands all g 0 w non_capturing refl a.4 o.0) in
      record { fits = m.fits; nested = omega (arith, m.nested); few = m.few }
  piece_good (atomic_text at body) all g w names later h k a =
      let o = open_front w at 0 atomic_opening (faults (inside w 0 atomic_opening) body) a.0 in
      let m : Good all names g (inside w 0 atomic_opening) body = regex_good body all g (inside w 0 atomic_opening) names later h k (o.2, a.1, no_name w.names (names_of body) later names a.2, a.3, deeper_stands all g 0 w atomic_opening refl a.4 o.0) in
      record { fits = m.fits; nested = omega (arith, m.nested); few = m.few }
  piece_good (look_text at positive back body) all g w names later h k a =
      let v = inside w 0 (look_opening positive back) in
      let c = at_close at (look_opening positive back) (width body) in
      let o = open_front w at 0 (look_opening positive back) (faults v body ++ c) a.0 in
      let i = back_is_good positive back at (width body) (back_none (faults v body) c o.2) in
      let m : Good all names g v body = regex_good body all g v names later h k (front_none (faults v body) c o.2, a.1, no_name w.names (names_of body) later names a.2, a.3, deeper_stands all g 0 w (look_opening positive back) refl a.4 o.0) in
      record { fits = (i, m.fits); nested = omega (arith, m.nested); few = m.few }
  piece_good (sequence parts) all g w names later h k a = absurd h
  piece_good (alternation branches) all g w names later h k a = absurd h

  pieces_good : (rs : PlainTexts) (all g : ℕ) (w : Where) (names later : Names) → ArePieces g rs → all_kinds_fit rs → Asked all g w names later (faults_in_turn w rs) (all_conditionals rs) (all_names rs) (all_captures rs) → AllGood all names g w rs
  pieces_good done all g w names later h k a = record { fits = tt; nested = omega (arith, a.4.depth); few = omega (arith, a.4.few) }
  pieces_good (r also rs) all g w names later h k a =
      let e1 : names ≡ w.names ++ (names_of r ++ (all_names rs ++ later)) = a.2 ∙ simp append_assoc in
      let e2 : names ≡ (w.names ++ names_of r) ++ (all_names rs ++ later) = a.2 ∙ simp append_assoc in
      let m : Good all names g w r = piece_good r all g w names (all_names rs ++ later) h.0 k.0
      (front_none (faults w r) (faults_in_turn (after w r) rs) a.0, front_choices all (conditionals r) (all_conditionals rs) a.1, e1, omega (arith, a.3), a.4) in
      let t : Stood all (g + captures r) (after w r) = after_stands all g w r (piece_numbers r g h.0) (piece_closed r g h.0) (omega (arith, a.3)) m.few a.4 in
      let n : AllGood all names (g + captures r) (after w r) rs = pieces_good rs all (g + captures r) (after w r) names later h.1 k.1
      (back_none (faults w r) (faults_in_turn (after w r) rs) a.0, back_choices all (conditionals r) (all_conditionals rs) a.1, e2, omega (arith, a.3), t) in
      record { fits = (m.fits, n.fits); nested = omega (arith, m.nested, n.nested); few = omega (arith, n.few) }

  branch_good : (r : PlainText) (all g : ℕ) (w : Where) (names later : Names) → IsBranch g r → kinds_fit r → Asked all g w names later (faults w r) (conditionals r) (names_of r) (captures r) → Good all names g w r
  branch_good (sequence parts) all g w names later h k a =
      let m : AllGood all names g w parts = pieces_good parts all g w names later h k a in record { fits = m.fits; nested = m.nested; few = m.few }
  branch_good _ all g w names later h k a = absurd h

  branches_good : (rs : PlainTexts) (all g : ℕ) (w : Where) (names later : Names) → AreBranches g rs → all_kinds_fit rs → Asked all g w names later (faults_in_turn w rs) (all_conditionals rs) (all_names rs) (all_captures rs) → AllGood all names g w rs
  branches_good done all g w names later h k a = record { fits = tt; nested = omega (arith, a.4.depth); few = omega (arith, a.4.few) }
  branches_good (r also rs) all g w names later h k a =
      let e1 : names ≡ w.names ++ (names_of r ++ (all_names rs ++ later)) = a.2 ∙ simp append_assoc in
      let e2 : names ≡ (w.names ++ names_of r) ++ (all_names rs ++ later) = a.2 ∙ simp append_assoc in
      let m : Good all names g w r = branch_good r all g w names (all_names rs ++ later) h.0 k.0
      (front_none (faults w r) (faults_in_turn (after w r) rs) a.0, front_choices all (conditionals r) (all_conditionals rs) a.1, e1, omega (arith, a.3), a.4) in
      let t : Stood all (g + captures r) (after w r) = after_stands all g w r (branch_numbers r g h.0) (branch_closed r g h.0) (omega (arith, a.3)) m.few a.4 in
      let n : AllGood all names (g + captures r) (after w r) rs = branches_good rs all (g + captures r) (after w r) names later h.1 k.1
      (back_none (faults w r) (faults_in_turn (after w r) rs) a.0, back_choices all (conditionals r) (all_conditionals rs) a.1, e2, omega (arith, a.3), t) in
      record { fits = (m.fits, n.fits); nested = omega (arith, m.nested, n.nested); few = omega (arith, n.few) }

  regex_good : (r : PlainText) (all g : ℕ) (w : Where) (names later : Names) → IsRegex g r → kinds_fit r → Asked all g w names later (faults w r) (conditionals r) (names_of r) (captures r) → Good all names g w r
  regex_good (sequence parts) all g w names later h k a =
      let m : AllGood all names g w parts = pieces_good parts all g w names later h k a in record { fits = m.fits; nested = m.nested; few = m.few }
  regex_good (alternation (r also q also rs)) all g w names later h k a =
      let m : AllGood all names g w (r also q also rs) = branches_good (r also q also rs) all g w names later h k a in record { fits = m.fits; nested = m.nested; few = m.few }
  regex_good _ all g w names later h k a = absurd h

-- a text without a fault has a code
pub good : (r : PlainText) → IsRegex 0 r → kinds_fit r → fault_of r ≡ None → Good (captures r) (names_of r) 0 outermost r
good r h k f =
    let n = none_first (all_faults r) f in
    regex_good r (captures r) 0 outermost (names_of r) [] h k (
      front_none (faults outermost r) (conditional_faults (captures r) (conditionals r)) n,
      back_none (faults outermost r) (conditional_faults (captures r) (conditionals r)) n,
      sym (append-nil (names_of r)),
      omega arith,
      record { numbers = tt; ended = tt; depth = omega arith; few = omega arith },
    )
