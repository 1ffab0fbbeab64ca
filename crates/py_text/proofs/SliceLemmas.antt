-- The places of a slice, and the items that stand there.
use Rattle.std.proofs.Common.{◌≡◌, ◌∙◌, ◌+◌, ◌-◌, ◌<◌, ◌≤◌, min, ℕ, zero, suc, Bool, true, false, nat_lt, ℤ, pos, negsuc, List, [], ◌∷◌, ◌++◌, Option, length, take, drop, reverse, get_or, slice_range, sym, ap, refl, arith, inl, inr}
use Rattle.std.specs.Prelude.{◌+ℤ◌, neg_ℤ, int_lt}
use Rattle.std.specs.List.{filter_map}
use Rattle.std.proofs.lemmas.Bool.{cases_lt}
use Rattle.std.proofs.lemmas.Bool.Decides.{nat_tests}
use Rattle.std.proofs.lemmas.Int.{ints}
use Rattle.std.proofs.lemmas.List.{drop_more, take_more, take-take, drop-take, drop-drop, drop_all, length-take, length-drop, length-reverse, reverse-append, get_or-drop}
use Rattle.py_text.specs.Subscript.{item_at, end_of, goes_on, places_from, slice_of}
use Rattle.py_text.specs.Strides.{every}
use Rattle.py_text.proofs.AsciiLemmas.{item_there}
use Rattle.py_text.proofs.StrideLemmas.{every_on, drop-reverse}

-- a slice that has no item
pub no_range : (L : List ℕ) (a b : ℕ) → b ≤ a → slice_range L a b ≡ []
no_range L a b h = ap (λ n. take n (drop a L)) {x = b - a} {y = 0} (omega arith)

-- its first item, and its last one
pub range_first : (L : List ℕ) (a b : ℕ) → a < b → b ≤ length L → slice_range L a b ≡ get_or L a 0 ∷ slice_range L (a + 1) b
range_first L a b h i =
    ap (λ n. take n (drop a L)) {x = b - a} {y = suc (b - (a + 1))} (omega arith)
    ∙ ap (take (suc (b - (a + 1)))) (drop_more L a 0 (omega arith))

pub range_last : (L : List ℕ) (a b : ℕ) → a ≤ b → b < length L → slice_range L a (suc b) ≡ slice_range L a b ++ get_or L b 0 ∷ []
range_last L a b h i =
    let at : get_or (drop a L) (b - a) 0 ≡ get_or L b 0 = get_or-drop a L (b - a) 0 ∙ ap (λ n. get_or L n 0) {x = a + (b - a)} {y = b} (omega arith) in
    ap (λ n. take n (drop a L)) {x = suc b - a} {y = (b - a) + 1} (omega arith)
    ∙ take_more (drop a L) (b - a) 0 (omega (arith, length-drop a L))
    ∙ ap (λ x. take (b - a) (drop a L) ++ x ∷ []) at

-- a slice without its first items, and without its last ones
pub drop_range : (L : List ℕ) (k a b : ℕ) → drop k (slice_range L a b) ≡ slice_range L (a + k) b
drop_range L k a b = elim (cases_lt (b - a) k) [
  | inl h ↦ drop_all k (slice_range L a b) (omega (arith, length-take (b - a) (drop a L))) ∙ sym (no_range L (a + k) b (omega arith))
  | inr h ↦
      ap (λ n. drop k (take n (drop a L))) {x = b - a} {y = k + (b - (a + k))} (omega arith)
      ∙ drop-take k (b - (a + k)) (drop a L)
      ∙ ap (take (b - (a + k))) (drop-drop k a L)
]

pub take_range : (L : List ℕ) (k a b : ℕ) → b ≤ length L → take (length (slice_range L a b) - k) (slice_range L a b) ≡ slice_range L a (b - k)
take_range L k a b h =
    let long : length (slice_range L a b) ≡ b - a = omega (arith, length-take (b - a) (drop a L), length-drop a L) in
    ap (λ n. take n (slice_range L a b)) {x = length (slice_range L a b) - k} {y = (b - k) - a} (omega arith)
    ∙ take-take ((b - k) - a) (b - a) (drop a L) (omega arith)

-- upwards
goes_up : (k a b : ℕ) → goes_on (pos k) (pos b) (pos a) ≡ nat_lt a b
goes_up k a b =
    let up : int_lt (pos k) (pos 0) ≡ false = grind (arith, nat_tests) in
    rw up refl

up_case : (n k a b : ℕ) (L : List ℕ) (t : Bool) → nat_lt a b ≡ t → 1 ≤ k → b ≤ length L
    → filter_map (item_at L) (places_from n (pos k) (pos b) (pos (a + k))) ≡ every k (slice_range L (a + k) b)
    → filter_map (item_at L) (places_from (suc n) (pos k) (pos b) (pos a)) ≡ every k (slice_range L a b)
up_case n k a b L true t h i rest =
    let lt : a < b = grind (arith, nat_tests) in
    let first : slice_range L a b ≡ get_or L a 0 ∷ slice_range L (a + 1) b = range_first L a b lt i in
    let right : every k (slice_range L a b) ≡ get_or L a 0 ∷ every k (slice_range L (a + k) b) =
    ap (every k) first ∙ every_on k (get_or L a 0) (slice_range L (a + 1) b) h ∙ ap (λ (l : List ℕ). get_or L a 0 ∷ every k (drop k l)) (sym first) ∙ ap (λ (l : List ℕ). get_or L a 0 ∷ every k l) (drop_range L k a b) in
    rw (goes_up k a b ∙ t, item_there L a (omega arith)) (ap (λ (l : List ℕ). get_or L a 0 ∷ l) rest ∙ sym right)
up_case n k a b L false t h i rest =
    let ge : b ≤ a = grind (arith, nat_tests) in
    rw (goes_up k a b ∙ t) (sym (ap (every k) (no_range L a b ge)))

pub up_is : (n k a b : ℕ) (L : List ℕ) → 1 ≤ k → b ≤ length L → b ≤ n + a → filter_map (item_at L) (places_from n (pos k) (pos b) (pos a)) ≡ every k (slice_range L a b)
up_is zero k a b L h i f = sym (ap (every k) (no_range L a b (omega arith)))
up_is (suc n) k a b L h i f = up_case n k a b L (nat_lt a b) refl h i (up_is n k (a + k) b L h i (omega arith))

-- the place before the n-th: the places from -1 on, counted from 0
abbrev one_before : ℕ → ℤ
one_before zero = negsuc 0
one_before (suc n) = pos n

-- downwards
goes_down : (m s a : ℕ) → goes_on (negsuc m) (one_before s) (one_before a) ≡ nat_lt s a
goes_down m zero zero = refl
goes_down m zero (suc a) = grind (arith, nat_tests)
goes_down m (suc s) zero = grind (arith, nat_tests)
goes_down m (suc s) (suc a) = grind (arith, nat_tests)

-- below all places nothing is taken
below_all : (n m s j : ℕ) → places_from n (negsuc m) (one_before s) (negsuc j) ≡ []
below_all zero m s j = refl
below_all (suc n) m zero j = rw (below_first j) refl where
  below_first : (j : ℕ) → int_lt (negsuc 0) (negsuc j) ≡ false
  below_first j = grind (arith, nat_tests)
below_all (suc n) m (suc s) j = refl

-- one step down from the place before the a-th
step_down : (n m s a : ℕ) → places_from n (negsuc m) (one_before s) (pos a +ℤ negsuc m) ≡ places_from n (negsuc m) (one_before s) (one_before (suc a - suc m))
step_down n m s a = elim (cases_lt a m) [
  | inl h ↦
      let under : pos a +ℤ negsuc m ≡ negsuc (m - a) = omega (arith, ints) in
      let none : suc a - suc m ≡ 0 = omega arith in
      ap (places_from n (negsuc m) (one_before s)) under ∙ below_all n m s (m - a) ∙ sym (ap (λ d. places_from n (negsuc m) (one_before s) (one_before d)) none ∙ below_all n m s 0)
  | inr h ↦ ap (places_from n (negsuc m) (one_before s)) (stepped a m h)
] where
  stepped : (a m : ℕ) → m ≤ a → pos a +ℤ negsuc m ≡ one_before (suc a - suc m)
  stepped a m h = elim (cases_lt m a) [
    | inl lt ↦ let e : suc a - suc m ≡ suc (a - suc m) = omega arith in sym (ap one_before e ∙ omega (arith, ints))
    | inr ge ↦ let e : suc a - suc m ≡ 0 = omega arith in sym (ap one_before e ∙ omega (arith, ints))
  ]

down_case : (n m s a : ℕ) (L : List ℕ) (t : Bool) → nat_lt s (suc a) ≡ t → suc a ≤ length L
    → filter_map (item_at L) (places_from n (negsuc m) (one_before s) (one_before (suc a - suc m))) ≡ every (suc m) (reverse (slice_range L s (suc a - suc m)))
    → filter_map (item_at L) (places_from (suc n) (negsuc m) (one_before s) (pos a)) ≡ every (suc m) (reverse (slice_range L s (suc a)))
down_case n m s a L true t i rest =
    let le : s ≤ a = grind (arith, nat_tests) in
    let turned : reverse (slice_range L s (suc a)) ≡ get_or L a 0 ∷ reverse (slice_range L s a) = ap reverse (range_last L s a le (omega arith)) ∙ reverse-append (slice_range L s a) (get_or L a 0 ∷ []) in
    let left : drop (suc m) (reverse (slice_range L s (suc a))) ≡ reverse (slice_range L s (suc a - suc m)) = drop-reverse (suc m) (slice_range L s (suc a)) ∙ ap reverse (take_range L (suc m) s (suc a) i) in
    let right : every (suc m) (reverse (slice_range L s (suc a))) ≡ get_or L a 0 ∷ every (suc m) (reverse (slice_range L s (suc a - suc m))) =
    ap (every (suc m)) turned ∙ every_on (suc m) (get_or L a 0) (reverse (slice_range L s a)) (omega arith) ∙ ap (λ (l : List ℕ). get_or L a 0 ∷ every (suc m) (drop (suc m) l)) (sym turned) ∙ ap (λ (l : List ℕ). get_or L a 0 ∷ every (suc m) l) left in
    rw (goes_down m s (suc a) ∙ t, item_there L a (omega arith)) (ap (λ (l : List ℕ). get_or L a 0 ∷ l) (ap (filter_map (item_at L)) (step_down n m s a) ∙ rest) ∙ sym right)
down_case n m s a L false t i rest =
    let ge : suc a ≤ s = grind (arith, nat_tests) in
    rw (goes_down m s (suc a) ∙ t) (sym (ap (λ (l : List ℕ). every (suc m) (reverse l)) (no_range L s (suc a) ge)))

down_none : (n m s : ℕ) (L : List ℕ) → filter_map (item_at L) (places_from n (negsuc m) (one_before s) (negsuc 0)) ≡ every (suc m) (reverse (slice_range L s 0))
down_none n m s L = ap (filter_map (item_at L)) (below_all n m s 0) ∙ sym (ap (λ (l : List ℕ). every (suc m) (reverse l)) (no_range L s 0 (omega arith)))

pub down_is : (n m s a : ℕ) (L : List ℕ) → a ≤ length L → a ≤ n + s → filter_map (item_at L) (places_from n (negsuc m) (one_before s) (one_before a)) ≡ every (suc m) (reverse (slice_range L s a))
down_is zero m s a L i f = sym (ap (λ (l : List ℕ). every (suc m) (reverse l)) (no_range L s a (omega arith)))
down_is (suc n) m s zero L i f = down_none (suc n) m s L
down_is (suc n) m s (suc a) L i f = down_case n m s a L (nat_lt s (suc a)) refl i (down_is n m s (suc a - suc m) L (omega arith) (omega arith))

-- a step past the whole list
every_far : (k j : ℕ) (L : List ℕ) → 1 ≤ k → 1 ≤ j → length L ≤ k → length L ≤ j → every k L ≡ every j L
every_far k j [] h i p q = refl
every_far k j (x ∷ xs) h i p q =
    every_on k x xs h
    ∙ ap (λ (l : List ℕ). x ∷ every k l) (drop_all k (x ∷ xs) p)
    ∙ sym (every_on j x xs i ∙ ap (λ (l : List ℕ). x ∷ every j l) (drop_all j (x ∷ xs) q))

pub every_cut : (k j : ℕ) (L : List ℕ) → 1 ≤ k → 1 ≤ j → length L ≤ j → every (min k j) L ≡ every k L
every_cut k j L h i p = elim (cases_lt k j) [
  | inl lt ↦ ap (λ n. every n L) {x = min k j} {y = k} (omega arith)
  | inr ge ↦ ap (λ n. every n L) {x = min k j} {y = j} (omega arith) ∙ every_far j k L i h p (omega arith)
]

-- where the beginning is past the end
pub range_cut : (L : List ℕ) (a b : ℕ) → slice_range L (min a b) b ≡ slice_range L a b
range_cut L a b = elim (cases_lt b a) [
  | inl h ↦ no_range L (min a b) b (omega arith) ∙ sym (no_range L a b (omega arith))
  | inr h ↦ ap (λ n. slice_range L n b) {x = min a b} {y = a} (omega arith)
]

range_short : (L : List ℕ) (a b : ℕ) → length (slice_range L a b) ≤ length L
range_short L a b = omega (arith, length-take (b - a) (drop a L), length-drop a L)

-- a whole slice with a step above 0
pub slice_up : (L : List ℕ) (start stop : Option ℤ) (k j from to : ℕ) → 1 ≤ k → length L ≤ j → 1 ≤ j
    → pos from ≡ end_of (length L) (pos 0) (pos (length L)) (pos 0) start → pos to ≡ end_of (length L) (pos 0) (pos (length L)) (pos (length L)) stop → to ≤ length L
    → every (min k j) (slice_range L (min from to) to) ≡ slice_of L start stop (pos k)
slice_up L start stop k j from to h p q e f i =
    let up : int_lt (pos k) (pos 0) ≡ false = grind (arith, nat_tests) in
    let short : length (slice_range L (min from to) to) ≤ j = omega (arith, range_short L (min from to) to) in
    every_cut k j (slice_range L (min from to) to) h q short
    ∙ ap (every k) (range_cut L from to)
    ∙ sym (up_is (length L) k from to L h i (omega arith))
    ∙ rw (up, ← e, ← f) refl

before_is : (f : ℕ) (z : ℤ) → pos f ≡ z +ℤ pos 1 → z ≡ one_before f
before_is zero z h = omega (arith, ints)
before_is (suc f) z h = omega (arith, ints)

-- and with one below 0
pub slice_down : (L : List ℕ) (start stop : Option ℤ) (k j from to : ℕ) → 1 ≤ k → length L ≤ j → 1 ≤ j
    → pos from ≡ end_of (length L) (negsuc 0) (pos (length L) +ℤ negsuc 0) (pos (length L) +ℤ negsuc 0) start +ℤ pos 1
    → pos to ≡ end_of (length L) (negsuc 0) (pos (length L) +ℤ negsuc 0) (pos 0 +ℤ negsuc 0) stop +ℤ pos 1
    → from ≤ length L
    → every (min k j) (reverse (slice_range L (min to from) from)) ≡ slice_of L start stop (neg_ℤ (pos k))
slice_down L start stop zero j from to h p q e f i = absurd (omega arith)
slice_down L start stop (suc m) j from to h p q e f i =
    let short : length (reverse (slice_range L (min to from) from)) ≤ j = omega (arith, range_short L (min to from) from, length-reverse (slice_range L (min to from) from)) in
    every_cut (suc m) j (reverse (slice_range L (min to from) from)) h q short
    ∙ ap (λ (l : List ℕ). every (suc m) (reverse l)) (range_cut L to from)
    ∙ sym (down_is (length L) m to from L i (omega arith))
    ∙ ap (filter_map (item_at L)) (sym (ap (λ z. places_from (length L) (negsuc m) z (end_of (length L) (negsuc 0) (pos (length L) +ℤ negsuc 0) (pos (length L) +ℤ negsuc 0) start)) (before_is to (end_of (length L) (negsuc 0) (pos (length L) +ℤ negsuc 0) (pos 0 +ℤ negsuc 0) stop) f) ∙ ap (places_from (length L) (negsuc m) (one_before to)) (before_is from (end_of (length L) (negsuc 0) (pos (length L) +ℤ negsuc 0) (pos (length L) +ℤ negsuc 0) start) e)))
