-- The order of texts is that of their bytes.
use Rattle.std.proofs.Common.{◌≡◌, ℕ, ◌+◌, ◌<◌, ◌≤◌, ◌/◌, ◌%◌, true, false, nat_lt, List, [], ◌∷◌, ◌++◌, refl, ap, sym, ◌∙◌, arith, inl, inr, ◌⊎◌}
use Rattle.std.proofs.lemmas.Bool.Decides.{nat_tests}
use Rattle.std.proofs.lemmas.Bool.{cases_lt}
use Rattle.std.specs.Char.{encode_utf8}
use Rattle.std.specs.Str.{encode_utf8_all}
use Rattle.std.specs.Cmp.Lexicographic.{slice_cmp}
use Rattle.std.specs.Ordering.{nat_cmp, ordering_then}
use Rattle.std.specs.declared.cmp.Ordering.{Ordering}
use Rattle.std.specs.declared.cmp.Ordering.TheVariants.{Less, Equal, Greater}

then_then : (a b c : Ordering) → ordering_then (ordering_then a b) c ≡ ordering_then a (ordering_then b c)
then_then Less b c = refl
then_then Equal b c = refl
then_then Greater b c = refl

lt_cmp : (x y : ℕ) → x < y → nat_cmp x y ≡ Less
lt_cmp x y h = grind (arith, nat_tests)

gt_cmp : (x y : ℕ) → y < x → nat_cmp x y ≡ Greater
gt_cmp x y h = let a : nat_lt x y ≡ false = grind (arith, nat_tests) in grind (arith, nat_tests)

eq_cmp : (x y : ℕ) → x ≡ y → nat_cmp x y ≡ Equal
eq_cmp x y h = grind (arith, nat_tests)

-- three ways
ways : (x y : ℕ) → (x < y) ⊎ ((x ≡ y) ⊎ (y < x))
ways x y = elim (cases_lt x y) [
  | inl h ↦ inl h
  | inr h ↦ elim (cases_lt y x) [ inl k ↦ inr (inr k) | inr k ↦ inr (inl (omega (arith, h, k))) ]
]

shift_cmp : (k x y : ℕ) → nat_cmp (k + x) (k + y) ≡ nat_cmp x y
shift_cmp k x y = elim (ways x y) [
  | inl h ↦ lt_cmp (k + x) (k + y) (omega (arith, h)) ∙ sym (lt_cmp x y h)
  | inr (inl h) ↦ eq_cmp (k + x) (k + y) (ap (λ n. k + n) h) ∙ sym (eq_cmp x y h)
  | inr (inr h) ↦ gt_cmp (k + x) (k + y) (omega (arith, h)) ∙ sym (gt_cmp x y h)
]

-- a number by its quotient and its remainder
digit_cmp : (x y : ℕ) → nat_cmp x y ≡ ordering_then (nat_cmp (x / 64) (y / 64)) (nat_cmp (x % 64) (y % 64))
digit_cmp x y = elim (ways (x / 64) (y / 64)) [
  | inl h ↦ lt_cmp x y (omega (arith, h)) ∙ sym (ap (λ o. ordering_then o (nat_cmp (x % 64) (y % 64))) (lt_cmp (x / 64) (y / 64) h))
  | inr (inl h) ↦ elim (ways (x % 64) (y % 64)) [
    | inl k ↦ lt_cmp x y (omega (arith, h, k)) ∙ sym (ap (λ o. ordering_then o (nat_cmp (x % 64) (y % 64))) (eq_cmp (x / 64) (y / 64) h) ∙ lt_cmp (x % 64) (y % 64) k)
    | inr (inl k) ↦ eq_cmp x y (omega (arith, h, k)) ∙ sym (ap (λ o. ordering_then o (nat_cmp (x % 64) (y % 64))) (eq_cmp (x / 64) (y / 64) h) ∙ eq_cmp (x % 64) (y % 64) k)
    | inr (inr k) ↦ gt_cmp x y (omega (arith, h, k)) ∙ sym (ap (λ o. ordering_then o (nat_cmp (x % 64) (y % 64))) (eq_cmp (x / 64) (y / 64) h) ∙ gt_cmp (x % 64) (y % 64) k)
  ]
  | inr (inr h) ↦ gt_cmp x y (omega (arith, h)) ∙ sym (ap (λ o. ordering_then o (nat_cmp (x % 64) (y % 64))) (gt_cmp (x / 64) (y / 64) h))
]

spelt_one : (c : ℕ) → c < 128 → encode_utf8 c ≡ c ∷ []
unfolding encode_utf8
spelt_one c h = let a : nat_lt c 128 ≡ true = grind (arith, nat_tests) in rw a refl

spelt_two : (c : ℕ) → 128 ≤ c → c < 2048 → encode_utf8 c ≡ (192 + c / 64) ∷ (128 + c % 64) ∷ []
unfolding encode_utf8
spelt_two c h k = let a : nat_lt c 128 ≡ false = grind (arith, nat_tests) in let b : nat_lt c 2048 ≡ true = grind (arith, nat_tests) in rw (a, b) refl

spelt_three : (c : ℕ) → 2048 ≤ c → c < 65536 → encode_utf8 c ≡ (224 + c / 64 / 64) ∷ (128 + c / 64 % 64) ∷ (128 + c % 64) ∷ []
unfolding encode_utf8
spelt_three c h k =
    let a : nat_lt c 128 ≡ false = grind (arith, nat_tests) in
    let b : nat_lt c 2048 ≡ false = grind (arith, nat_tests) in
    let d : nat_lt c 65536 ≡ true = grind (arith, nat_tests) in
    let e : c / 4096 ≡ c / 64 / 64 = omega arith in
    rw (a, b, d) (ap (λ n. (224 + n) ∷ (128 + c / 64 % 64) ∷ (128 + c % 64) ∷ []) e)

spelt_four : (c : ℕ) → 65536 ≤ c → encode_utf8 c ≡ (240 + c / 64 / 64 / 64) ∷ (128 + c / 64 / 64 % 64) ∷ (128 + c / 64 % 64) ∷ (128 + c % 64) ∷ []
unfolding encode_utf8
spelt_four c h =
    let a : nat_lt c 128 ≡ false = grind (arith, nat_tests) in
    let b : nat_lt c 2048 ≡ false = grind (arith, nat_tests) in
    let d : nat_lt c 65536 ≡ false = grind (arith, nat_tests) in
    let e : c / 4096 ≡ c / 64 / 64 = omega arith in
    let f : c / 262144 ≡ c / 64 / 64 / 64 = omega arith in
    rw (a, b, d) ((λ i. (240 + f i) ∷ (128 + e i % 64) ∷ (128 + c / 64 % 64) ∷ (128 + c % 64) ∷ []))

-- the lead byte and the continuation bytes, compared
pub digits_cmp : (x y : ℕ) (o : Ordering) → ordering_then (nat_cmp (x / 64) (y / 64)) (ordering_then (nat_cmp (128 + x % 64) (128 + y % 64)) o) ≡ ordering_then (nat_cmp x y) o
digits_cmp x y o =
    ap (λ r. ordering_then (nat_cmp (x / 64) (y / 64)) (ordering_then r o)) (shift_cmp 128 (x % 64) (y % 64))
    ∙ sym (then_then (nat_cmp (x / 64) (y / 64)) (nat_cmp (x % 64) (y % 64)) o)
    ∙ ap (λ r. ordering_then r o) (sym (digit_cmp x y))

lead_cmp : (k x y : ℕ) (o : Ordering) → ordering_then (nat_cmp (k + x) (k + y)) o ≡ ordering_then (nat_cmp x y) o
lead_cmp k x y o = ap (λ r. ordering_then r o) (shift_cmp k x y)

-- how many bytes there are, ps a number from 1 to 4, is told by the lead byte
abbrev Order : ℕ → ℕ → List ℕ → List ℕ → Type 0
Order c d xs ys = slice_cmp nat_cmp (encode_utf8 c ++ xs) (encode_utf8 d ++ ys) ≡ ordering_then (nat_cmp c d) (slice_cmp nat_cmp xs ys)

spelt_order : (c d : ℕ) (xs ys bs es : List ℕ) → encode_utf8 c ≡ bs → encode_utf8 d ≡ es → slice_cmp nat_cmp (bs ++ xs) (es ++ ys) ≡ ordering_then (nat_cmp c d) (slice_cmp nat_cmp xs ys) → Order c d xs ys
spelt_order c d xs ys bs es e f h = ap (λ l. slice_cmp nat_cmp (l ++ xs) (encode_utf8 d ++ ys)) e ∙ ap (λ l. slice_cmp nat_cmp (bs ++ xs) (l ++ ys)) f ∙ h

lead_less : (c d a b : ℕ) (xs ys ps qs : List ℕ) → encode_utf8 c ≡ a ∷ ps → encode_utf8 d ≡ b ∷ qs → c < d → a < b → Order c d xs ys
lead_less c d a b xs ys ps qs e f lt h =
    spelt_order c d xs ys (a ∷ ps) (b ∷ qs) e f (ap (λ o. ordering_then o (slice_cmp nat_cmp (ps ++ xs) (qs ++ ys))) (lt_cmp a b h) ∙ sym (ap (λ o. ordering_then o (slice_cmp nat_cmp xs ys)) (lt_cmp c d lt)))

lead_greater : (c d a b : ℕ) (xs ys ps qs : List ℕ) → encode_utf8 c ≡ a ∷ ps → encode_utf8 d ≡ b ∷ qs → d < c → b < a → Order c d xs ys
lead_greater c d a b xs ys ps qs e f lt h =
    spelt_order c d xs ys (a ∷ ps) (b ∷ qs) e f (ap (λ o. ordering_then o (slice_cmp nat_cmp (ps ++ xs) (qs ++ ys))) (gt_cmp a b h) ∙ sym (ap (λ o. ordering_then o (slice_cmp nat_cmp xs ys)) (gt_cmp c d lt)))

order_two : (c d : ℕ) (xs ys : List ℕ) → 128 ≤ c → c < 2048 → 128 ≤ d → d < 2048 → Order c d xs ys
order_two c d xs ys h i j k =
    spelt_order c d xs ys _ _ (spelt_two c h i) (spelt_two d j k)
    (lead_cmp 192 (c / 64) (d / 64) _ ∙ digits_cmp c d (slice_cmp nat_cmp xs ys))

order_three : (c d : ℕ) (xs ys : List ℕ) → 2048 ≤ c → c < 65536 → 2048 ≤ d → d < 65536 → Order c d xs ys
order_three c d xs ys h i j k =
    spelt_order c d xs ys _ _ (spelt_three c h i) (spelt_three d j k)
    (lead_cmp 224 (c / 64 / 64) (d / 64 / 64) _ ∙ digits_cmp (c / 64) (d / 64) _ ∙ digits_cmp c d (slice_cmp nat_cmp xs ys))

order_four : (c d : ℕ) (xs ys : List ℕ) → 65536 ≤ c → 65536 ≤ d → Order c d xs ys
order_four c d xs ys h j =
    spelt_order c d xs ys _ _ (spelt_four c h) (spelt_four d j)
    (lead_cmp 240 (c / 64 / 64 / 64) (d / 64 / 64 / 64) _ ∙ digits_cmp (c / 64 / 64) (d / 64 / 64) _ ∙ digits_cmp (c / 64) (d / 64) _ ∙ digits_cmp c d (slice_cmp nat_cmp xs ys))

-- of how many bytes
data Size (c : ℕ) : Type 0 where
  one : c < 128 → Size c
  two : 128 ≤ c → c < 2048 → Size c
  three : 2048 ≤ c → c < 65536 → Size c
  four : 65536 ≤ c → Size c

size : (c : ℕ) → Size c
size c = elim (cases_lt c 128) [
  | inl h ↦ one h
  | inr h ↦ elim (cases_lt c 2048) [
    | inl k ↦ two h k
    | inr k ↦ elim (cases_lt c 65536) [ inl m ↦ three k m | inr m ↦ four m ]
  ]
]

order_sizes : (c d : ℕ) (xs ys : List ℕ) → Size c → Size d → Order c d xs ys
order_sizes c d xs ys (one h) (one k) = spelt_order c d xs ys _ _ (spelt_one c h) (spelt_one d k) refl
order_sizes c d xs ys (one h) (two k l) = lead_less c d _ _ xs ys _ _ (spelt_one c h) (spelt_two d k l) (omega arith) (omega arith)
order_sizes c d xs ys (one h) (three k l) = lead_less c d _ _ xs ys _ _ (spelt_one c h) (spelt_three d k l) (omega arith) (omega arith)
order_sizes c d xs ys (one h) (four k) = lead_less c d _ _ xs ys _ _ (spelt_one c h) (spelt_four d k) (omega arith) (omega arith)
order_sizes c d xs ys (two h i) (one k) = lead_greater c d _ _ xs ys _ _ (spelt_two c h i) (spelt_one d k) (omega arith) (omega arith)
order_sizes c d xs ys (two h i) (two k l) = order_two c d xs ys h i k l
order_sizes c d xs ys (two h i) (three k l) = lead_less c d _ _ xs ys _ _ (spelt_two c h i) (spelt_three d k l) (omega arith) (omega arith)
order_sizes c d xs ys (two h i) (four k) = lead_less c d _ _ xs ys _ _ (spelt_two c h i) (spelt_four d k) (omega arith) (omega arith)
order_sizes c d xs ys (three h i) (one k) = lead_greater c d _ _ xs ys _ _ (spelt_three c h i) (spelt_one d k) (omega arith) (omega arith)
order_sizes c d xs ys (three h i) (two k l) = lead_greater c d _ _ xs ys _ _ (spelt_three c h i) (spelt_two d k l) (omega arith) (omega arith)
order_sizes c d xs ys (three h i) (three k l) = order_three c d xs ys h i k l
order_sizes c d xs ys (three h i) (four k) = lead_less c d _ _ xs ys _ _ (spelt_three c h i) (spelt_four d k) (omega arith) (omega arith)
order_sizes c d xs ys (four h) (one k) = lead_greater c d _ _ xs ys _ _ (spelt_four c h) (spelt_one d k) (omega arith) (omega arith)
order_sizes c d xs ys (four h) (two k l) = lead_greater c d _ _ xs ys _ _ (spelt_four c h) (spelt_two d k l) (omega arith) (omega arith)
order_sizes c d xs ys (four h) (three k l) = lead_greater c d _ _ xs ys _ _ (spelt_four c h) (spelt_three d k l) (omega arith) (omega arith)
order_sizes c d xs ys (four h) (four k) = order_four c d xs ys h k

some_bytes : (d : ℕ) (ys : List ℕ) → Size d → (b : ℕ) × (bs : List ℕ) × (encode_utf8 d ++ ys ≡ b ∷ bs)
some_bytes d ys (one k) = (_, _, ap (λ l. l ++ ys) (spelt_one d k))
some_bytes d ys (two k l) = (_, _, ap (λ l. l ++ ys) (spelt_two d k l))
some_bytes d ys (three k l) = (_, _, ap (λ l. l ++ ys) (spelt_three d k l))
some_bytes d ys (four k) = (_, _, ap (λ l. l ++ ys) (spelt_four d k))

-- the order of the bytes is the order of the code points
pub bytes_order : (ps qs : List ℕ) → slice_cmp nat_cmp (encode_utf8_all ps) (encode_utf8_all qs) ≡ slice_cmp nat_cmp ps qs
bytes_order [] [] = refl
bytes_order [] (d ∷ ds) = let p = some_bytes d (encode_utf8_all ds) (size d) in ap (λ l. slice_cmp nat_cmp [] l) p.2
bytes_order (c ∷ cs) [] = let p = some_bytes c (encode_utf8_all cs) (size c) in ap (λ l. slice_cmp nat_cmp l []) p.2
bytes_order (c ∷ cs) (d ∷ ds) =
    order_sizes c d (encode_utf8_all cs) (encode_utf8_all ds) (size c) (size d)
    ∙ ap (ordering_then (nat_cmp c d)) (bytes_order cs ds)
