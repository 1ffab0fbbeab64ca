-- The laws of order, and of iterators.
use Rattle.std.proofs.Common.{◌≡◌, ◌∙◌, ◌+◌, ◌<◌, ◌≤◌, ℕ, zero, suc, true, false, nat_lt, List, [], ◌∷◌, ◌++◌, length, drop, get_or, sym, ap, refl, arith, Option, Some, None, inl, inr}
use Rattle.std.proofs.lemmas.Bool.{cases_lt}
use Rattle.std.specs.Cmp.Lexicographic.{slice_cmp}
use Rattle.std.specs.Ordering.{nat_cmp, ordering_then}
use Rattle.std.specs.declared.cmp.Ordering.{Ordering}
use Rattle.std.specs.declared.cmp.Ordering.TheVariants.{Less, Equal, Greater}
use Rattle.std.proofs.lemmas.Bool.Decides.{nat_tests}
use Rattle.std.proofs.lemmas.List.{drop_more, drop_all, length-drop, nil_from_length}
use Rattle.py_text.specs.Iterator.{Position, rest_of}
use Rattle.py_text.specs.Laws.{given, AreOrderedByFirstDifference, HavePrefixesFirst, AreEqualInOrder}
use Rattle.py_text.proofs.AsciiLemmas.{item_there}
use Rattle.py_text.proofs.CursorLemmas.{past_end}

same_item : (x : ℕ) → nat_cmp x x ≡ Equal
same_item x = grind (arith, nat_tests)

less_item : (x y : ℕ) → x < y → nat_cmp x y ≡ Less
less_item x y h = grind (arith, nat_tests)

pub first_difference : (front xs ys : List ℕ) (c d : ℕ) → c < d → slice_cmp nat_cmp (front ++ c ∷ xs) (front ++ d ∷ ys) ≡ Less
first_difference [] xs ys c d h = ap (λ (o : Ordering). ordering_then o (slice_cmp nat_cmp xs ys)) (less_item c d h)
first_difference (x ∷ front) xs ys c d h = ap (λ (o : Ordering). ordering_then o (slice_cmp nat_cmp (front ++ c ∷ xs) (front ++ d ∷ ys))) (same_item x) ∙ first_difference front xs ys c d h

pub beginning_first : (front xs : List ℕ) (c : ℕ) → slice_cmp nat_cmp front (front ++ c ∷ xs) ≡ Less
beginning_first [] xs c = refl
beginning_first (x ∷ front) xs c = ap (λ (o : Ordering). ordering_then o (slice_cmp nat_cmp front (front ++ c ∷ xs))) (same_item x) ∙ beginning_first front xs c

exhausted : (n : ℕ) → given n None ≡ []
exhausted zero = refl
exhausted (suc n) = exhausted n

given_within : (n : ℕ) (L : List ℕ) (at : ℕ) → at < length L → given n (Some (record { text = L; place = at + 1 })) ≡ drop (at + 1) L → given (suc n) (Some (record { text = L; place = at })) ≡ drop at L
given_within n L at lt rest =
    let yes : nat_lt at (length L) ≡ true = grind (arith, nat_tests) in
    rw (item_there L at lt, yes) (ap (λ (l : List ℕ). get_or L at 0 ∷ l) rest ∙ sym (drop_more L at 0 lt))

given_past : (n : ℕ) (L : List ℕ) (at : ℕ) → length L ≤ at → given (suc n) (Some (record { text = L; place = at })) ≡ drop at L
given_past n L at ge =
    let no : nat_lt at (length L) ≡ false = grind (arith, nat_tests) in
    rw (past_end L at ge, no) (exhausted n ∙ sym (drop_all at L ge))

given_from : (n : ℕ) (L : List ℕ) (at : ℕ) → length (drop at L) ≤ n → given n (Some (record { text = L; place = at })) ≡ drop at L
given_from zero L at h = sym (nil_from_length (drop at L) (omega arith))
given_from (suc n) L at h = elim (cases_lt at (length L)) [
  | inl lt ↦ given_within n L at lt (given_from n L (at + 1) (omega (arith, h, length-drop at L, length-drop (at + 1) L)))
  | inr ge ↦ given_past n L at ge
]

pub gives_the_rest : (it : Option Position) (n : ℕ) → length (rest_of it) ≤ n → given n it ≡ rest_of it
gives_the_rest None n h = exhausted n
gives_the_rest (Some s) n h = given_from n s.text s.place h

-- the other way round
greater_item : (x y : ℕ) → y < x → nat_cmp x y ≡ Greater
greater_item x y h = grind (arith, nat_tests)

pub greater_difference : (front xs ys : List ℕ) (c d : ℕ) → c < d → slice_cmp nat_cmp (front ++ d ∷ ys) (front ++ c ∷ xs) ≡ Greater
greater_difference [] xs ys c d h = ap (λ (o : Ordering). ordering_then o (slice_cmp nat_cmp ys xs)) (greater_item d c h)
greater_difference (x ∷ front) xs ys c d h = ap (λ (o : Ordering). ordering_then o (slice_cmp nat_cmp (front ++ d ∷ ys) (front ++ c ∷ xs))) (same_item x) ∙ greater_difference front xs ys c d h

pub prefix_last : (front xs : List ℕ) (c : ℕ) → slice_cmp nat_cmp (front ++ c ∷ xs) front ≡ Greater
prefix_last [] xs c = refl
prefix_last (x ∷ front) xs c = ap (λ (o : Ordering). ordering_then o (slice_cmp nat_cmp (front ++ c ∷ xs) front)) (same_item x) ∙ prefix_last front xs c

itself : (a : List ℕ) → slice_cmp nat_cmp a a ≡ Equal
itself [] = refl
itself (x ∷ xs) = ap (λ (o : Ordering). ordering_then o (slice_cmp nat_cmp xs xs)) (same_item x) ∙ itself xs

equal_item : (x y : ℕ) → nat_cmp x y ≡ Equal → x ≡ y
equal_item x y h = grind (arith, nat_tests)

then_first : (o r : Ordering) → ordering_then o r ≡ Equal → o ≡ Equal
then_first Less r h = h
then_first Equal r h = refl
then_first Greater r h = h

then_second : (o r : Ordering) → ordering_then o r ≡ Equal → r ≡ Equal
then_second Less r h = absurd (cc)
then_second Equal r h = h
then_second Greater r h = absurd (cc)

equal_lists : (a b : List ℕ) → slice_cmp nat_cmp a b ≡ Equal → a ≡ b
equal_lists [] [] h = refl
equal_lists [] (y ∷ ys) h = absurd (cc)
equal_lists (x ∷ xs) [] h = absurd (cc)
equal_lists (x ∷ xs) (y ∷ ys) h =
    let e : x ≡ y = equal_item x y (then_first (nat_cmp x y) (slice_cmp nat_cmp xs ys) h) in
    let f : xs ≡ ys = equal_lists xs ys (then_second (nat_cmp x y) (slice_cmp nat_cmp xs ys) h) in
    (λ j. e j ∷ f j)

pub ordered_by_difference : AreOrderedByFirstDifference (slice_cmp nat_cmp)
ordered_by_difference = λ start xs ys c d h. (first_difference start xs ys c d h, greater_difference start xs ys c d h)

pub prefixes_first : HavePrefixesFirst (slice_cmp nat_cmp)
prefixes_first = λ prefix xs c. (beginning_first prefix xs c, prefix_last prefix xs c)

pub equal_in_order : AreEqualInOrder (slice_cmp nat_cmp)
equal_in_order = λ a b. (equal_lists a b, λ e. ap (λ l. slice_cmp nat_cmp a l) (sym e) ∙ itself a)
