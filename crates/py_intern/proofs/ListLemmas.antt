-- Lists of texts: places, a text more at the end, and distinctness.
use Rattle.std.proofs.Common.{◌≡◌, ℕ, ◌+◌, ◌<◌, ◌≤◌, Bool, true, false, ◌⊎◌, inl, inr, nat_lt, nat_eq, List, [], ◌∷◌, ◌++◌, length, take, get_or, slice_get, Option, Some, None, unwrap_or, cond, refl, ap, sym, ◌∙◌, suc, zero, arith, subst}
use Rattle.std.proofs.lemmas.Bool.{cases_lt}
use Rattle.std.proofs.lemmas.Bool.Decides.{nat_tests}
use Rattle.std.proofs.lemmas.Option.{slice_get-get_or, get_or_from_slice_get, slice_get_within}
use Rattle.std.proofs.lemmas.List.Sums.{fails_before_first}
use Rattle.std.proofs.lemmas.List.Quantifiers.{position-Some}
use Rattle.std.proofs.Math.Seq.{take-suc}
use Rattle.std.specs.List.{position_or_len}
use Rattle.std.specs.Ordering.{nat_cmp}
use Rattle.std.specs.declared.cmp.Ordering.TheVariants.{Less}
use Rattle.std.specs.Cmp.Lexicographic.{pointwise, same_text, bytes_decides}
use Rattle.py_intern.specs.Pool.{place_of, put, put_by, AreDistinct}
use Rattle.py_intern.specs.Laws.{AreEqualAsTexts, NewIsGreatest, KeepsTexts, StaysDistinct, FindsItsText}

-- what is found is there
pub found_there : (text : List ℕ) (pool : List (List ℕ)) (k : ℕ) → place_of text pool ≡ Some k → slice_get pool k ≡ Some text
found_there text pool k e =
    let p = position-Some (pointwise nat_eq text) pool k text e in
    slice_get-get_or pool k text p.0 ∙ ap Some (sym (same_text text (get_or pool k text) (sym p.1)))

same_self : (text : List ℕ) → pointwise nat_eq text text ≡ true
same_self text = (bytes_decides text text).1 refl

first_case : (p : List ℕ → Bool) (pool : List (List ℕ)) (a : ℕ) (text : List ℕ) → slice_get pool a ≡ Some text → p text ≡ true → (a < position_or_len p pool) ⊎ (position_or_len p pool ≤ a) → position_or_len p pool ≤ a
first_case p pool a text h t (inl lt) =
    let not : p text ≡ false = ap p (sym (get_or_from_slice_get pool a text text h)) ∙ fails_before_first p pool a text lt in
    absurd (let no : true ≡ false = sym t ∙ not in cc)
first_case p pool a text h t (inr le) = le

-- and what is there is found
pub place_there : (text : List ℕ) (pool : List (List ℕ)) (a : ℕ) → slice_get pool a ≡ Some text → (k : ℕ) × (place_of text pool ≡ Some k)
place_there text pool a h =
    let first : position_or_len (pointwise nat_eq text) pool ≤ a = first_case (pointwise nat_eq text) pool a text h (same_self text) (cases_lt a (position_or_len (pointwise nat_eq text) pool)) in
    let within : a < length pool = slice_get_within pool a text h in
    let test : nat_lt (position_or_len (pointwise nat_eq text) pool) (length pool) ≡ true = grind (arith, nat_tests) in
    (position_or_len (pointwise nat_eq text) pool, ap (λ b. cond b (Some (position_or_len (pointwise nat_eq text) pool)) None) test)

pub absent : (text : List ℕ) (pool : List (List ℕ)) (a : ℕ) → place_of text pool ≡ None → slice_get pool a ≡ Some text → ⊥
absent text pool a none h = let p = place_there text pool a h in let no : Some p.0 ≡ None = sym p.1 ∙ none in cc

-- a text more at the end
get_pushed : (pool : List (List ℕ)) (t : List ℕ) (a : ℕ) (x : List ℕ) → slice_get (pool ++ t ∷ []) a ≡ Some x → (slice_get pool a ≡ Some x) ⊎ ((a ≡ length pool) × (x ≡ t))
get_pushed [] t zero x h = inr (refl, cc)
get_pushed [] t (suc a) x h = absurd (cc)
get_pushed (y ∷ ys) t zero x h = inl h
get_pushed (y ∷ ys) t (suc a) x h = elim (get_pushed ys t a x h) [ inl k ↦ inl k | inr k ↦ inr (ap suc k.0, k.1) ]

get_kept : (pool : List (List ℕ)) (t : List ℕ) (a : ℕ) → a < length pool → slice_get (pool ++ t ∷ []) a ≡ slice_get pool a
get_kept [] t a h = absurd (omega arith)
get_kept (y ∷ ys) t zero h = refl
get_kept (y ∷ ys) t (suc a) h = get_kept ys t a (omega arith)

pub distinct_pushed : (text : List ℕ) (pool : List (List ℕ)) → AreDistinct pool → place_of text pool ≡ None → AreDistinct (pool ++ text ∷ [])
distinct_pushed text pool d none = λ a b x ha hb. elim (get_pushed pool text a x ha) [
  | inl p ↦ elim (get_pushed pool text b x hb) [
    | inl q ↦ d a b x p q
    | inr q ↦ absurd (absent text pool a none (p ∙ ap Some q.1))
  ]
  | inr p ↦ elim (get_pushed pool text b x hb) [
    | inl q ↦ absurd (absent text pool b none (q ∙ ap Some p.1))
    | inr q ↦ p.0 ∙ sym q.0
  ]
]

-- the pool with a text
pub put_new : (text : List ℕ) (pool : List (List ℕ)) → place_of text pool ≡ None → put text pool ≡ pool ++ text ∷ []
put_new text pool e = ap (λ o. put_by o text pool) e

pub put_old : (text : List ℕ) (pool : List (List ℕ)) (k : ℕ) → place_of text pool ≡ Some k → put text pool ≡ pool
put_old text pool k e = ap (λ o. put_by o text pool) e

put_distinct : (text : List ℕ) (pool : List (List ℕ)) (o : Option ℕ) → place_of text pool ≡ o → AreDistinct pool → AreDistinct (put text pool)
put_distinct text pool None e d = subst AreDistinct (sym (put_new text pool e)) (distinct_pushed text pool d e)
put_distinct text pool (Some k) e d = subst AreDistinct (sym (put_old text pool k e)) d

pub stays_distinct : StaysDistinct
stays_distinct = λ pool text d. put_distinct text pool (place_of text pool) refl d

put_keeps : (text : List ℕ) (pool : List (List ℕ)) (a : ℕ) (o : Option ℕ) → a < length pool → slice_get (put_by o text pool) a ≡ slice_get pool a
put_keeps text pool a None h = get_kept pool text a h
put_keeps text pool a (Some k) h = refl

pub keeps_texts : KeepsTexts
keeps_texts = λ pool text a h. put_keeps text pool a (place_of text pool) h

pub finds_its_text : FindsItsText
finds_its_text = λ pool text a d h.
    let p = place_there text pool a h in
    p.1 ∙ ap Some (d p.0 a text (found_there text pool p.0 p.1) h)

same_places : (pool : List (List ℕ)) (a b : ℕ) → AreDistinct pool → a < length pool → slice_get pool a ≡ slice_get pool b → a ≡ b
same_places pool a b d h e =
    let there : slice_get pool a ≡ Some (get_or pool a []) = slice_get-get_or pool a [] h in
    d a b (get_or pool a []) there (sym e ∙ there)

test_same : (a b : ℕ) → nat_eq a b ≡ true → a ≡ b
test_same a b h = grind (arith, nat_tests)

test_of : (a b : ℕ) → a ≡ b → nat_eq a b ≡ true
test_of a b h = grind (arith, nat_tests)

pub equal_as_texts : AreEqualAsTexts nat_eq
equal_as_texts = λ pool a b d ha hb.
    ((λ t. ap (slice_get pool) (test_same a b t)), (λ e. test_of a b (same_places pool a b d ha e)))

less_place : (a b : ℕ) → a < b → nat_cmp a b ≡ Less
less_place a b h = grind (arith, nat_tests)

pub new_is_greatest : NewIsGreatest nat_cmp
new_is_greatest = λ pool text a none h.
    ap (λ (o : Option ℕ). nat_cmp a (unwrap_or o (length pool))) none ∙ less_place a (length pool) h

-- the first so many texts
get_taken : (xs : List (List ℕ)) (i k : ℕ) (x : List ℕ) → slice_get (take i xs) k ≡ Some x → (k < i) × (slice_get xs k ≡ Some x)
get_taken xs zero k x h = absurd (cc)
get_taken [] (suc i) k x h = absurd (cc)
get_taken (y ∷ ys) (suc i) zero x h = (omega arith, h)
get_taken (y ∷ ys) (suc i) (suc k) x h = let r = get_taken ys i k x h in (omega (arith, r.0), r.1)

not_before_case : (text : List ℕ) (pool : List (List ℕ)) (i : ℕ) (o : Option ℕ) → AreDistinct pool → slice_get pool i ≡ Some text → place_of text (take i pool) ≡ o → place_of text (take i pool) ≡ None
not_before_case text pool i None d h e = e
not_before_case text pool i (Some k) d h e =
    let there = get_taken pool i k text (found_there text (take i pool) k e) in
    absurd (omega (arith, there.0, d k i text there.1 h))

-- a text is not among those before it
pub not_before : (text : List ℕ) (pool : List (List ℕ)) (i : ℕ) → AreDistinct pool → slice_get pool i ≡ Some text → place_of text (take i pool) ≡ None
not_before text pool i d h = not_before_case text pool i (place_of text (take i pool)) d h refl

pub take_next : (text : List ℕ) (pool : List (List ℕ)) (i : ℕ) → slice_get pool i ≡ Some text → take (i + 1) pool ≡ take i pool ++ text ∷ []
take_next text pool i h =
    let one : i + 1 ≡ suc i = omega arith in
    ap (λ n. take n pool) one ∙ take-suc pool i text (slice_get_within pool i text h) ∙ ap (λ t. take i pool ++ t ∷ []) (get_or_from_slice_get pool i text text h)
