-- Lower-case digits that are read part by part.
use Rattle.std.proofs.Common.{◌≡◌, ◌≢◌, ℕ, zero, suc, ◌+◌, ◌*◌, ◌/◌, ◌%◌, ◌<◌, ◌≤◌, ◌==◌, nat_lt, Bool, true, false, not, ◌&&◌, ◌||◌, List, [], ◌∷◌, ◌++◌, length, ◌-◌, take, drop, slice_range, get_or, slice_index, slice_set, bit_and, refl, sym, ap, ◌∙◌, arith, append_assoc}
use Rattle.std.specs.List.{list_any}
use Rattle.std.proofs.lemmas.List.{take_more, take_more_set, take-append-drop}
use Rattle.std.proofs.lemmas.Bool.{agree_below, agree_below_at, eqb-true, or_from, or_parts}
use Rattle.std.proofs.lemmas.Nat.{and_mask}
use Rattle.std.proofs.Math.Seq.{take-add}
use Rattle.std.proofs.lemmas.List.Folds.{list_any-append}
use Rattle.sre_match.proofs.UnitLemmas.{range_length}
use Rattle.hex.specs.Hex.{encode_with, encode_lower, lower_digits, IsBytes}
use Rattle.hex.proofs.HexLemmas.{length-encode_with}
use Rattle.sre_commands.specs.Tokens.Hexadecimal.{is_digit, is_no_digit}
use Rattle.sre_commands.proofs.EncodeLemmas.{encode_with-append}

-- two digits more are read
pub pair_read : (digits block : List ℕ) (i v h l : ℕ) → 2 * i + 1 < length digits → i < length block
    → v ≡ h * 16 + l → l < 16
    → slice_index lower_digits h ≡ slice_index digits (2 * i) → slice_index lower_digits l ≡ slice_index digits (2 * i + 1)
    → take (2 * i) digits ≡ encode_lower (take i block)
    → take (2 * (i + 1)) digits ≡ encode_lower (take (i + 1) (slice_set block i v))
unfolding encode_with
pair_read digits block i v h l fits room ev below eh el inv =
    let two : 2 * (i + 1) ≡ 2 * i + 1 + 1 = omega arith in
    let high : v / 16 ≡ h = omega arith in
    let low : v % 16 ≡ l = omega arith in
    let second = take_more digits (2 * i + 1) 0 fits in
    let first = take_more digits (2 * i) 0 (omega arith) in
    let set = take_more_set block i v room in
    let put : encode_lower (take (i + 1) (slice_set block i v)) ≡ encode_lower (take i block) ++ (slice_index lower_digits (v / 16) ∷ slice_index lower_digits (v % 16) ∷ []) =
    ap encode_lower set ∙ encode_with-append lower_digits (take i block) (v ∷ []) in
    rw (two, second, first, put, high, low, eh, el, ← inv) (append_assoc (take (2 * i) digits) (slice_index digits (2 * i) ∷ []) (slice_index digits (2 * i + 1) ∷ []))

-- nothing is read
pub none_read : [] ≡ encode_lower []
unfolding encode_with
none_read = refl

-- ---- the value of a digit

abbrev value_in : ℕ → ℕ
value_in c = (c % 16 + 9 * (c / 64)) % 256

abbrev is_fine : ℕ → Bool
is_fine c = not (is_digit c) || (slice_index lower_digits (value_in c) == c)

all_fine : agree_below is_fine (λ _. true) 256 ≡ true
all_fine = refl

or_yes : (a b : Bool) → not a || b ≡ true → a ≡ true → b ≡ true
or_yes true b h e = h
or_yes false b h e = cc e

pub value_is : (c : ℕ) → c < 256 → is_digit c ≡ true → slice_index lower_digits ((bit_and c 15 + 9 * (c / 64)) % 256) ≡ c
value_is c below h =
    let fine = agree_below_at is_fine (λ _. true) 256 c all_fine below in
    let same : slice_index lower_digits (value_in c) ≡ c = eqb-true (slice_index lower_digits (value_in c)) c (or_yes (is_digit c) (slice_index lower_digits (value_in c) == c) fine h) in
    rw (and_mask c 4) same

-- ---- bytes that are no digits

pub wrong_parts : (w a b : Bool) → (w || not a) || not b ≡ false → (w ≡ false) × (a ≡ true) × (b ≡ true)
wrong_parts true a b h = cc h
wrong_parts false false b h = cc h
wrong_parts false true false h = cc h
wrong_parts false true true h = (refl, refl, refl)

or_right : (a b : Bool) → b ≡ true → a || b ≡ true
or_right true b h = refl
or_right false b h = h

pub any_at : (xs : List ℕ) (k : ℕ) → k < length xs → is_digit (get_or xs k 0) ≡ false → list_any is_no_digit xs ≡ true
any_at [] k lt h = absurd (omega arith)
any_at (x ∷ xs) zero lt h = rw h refl
any_at (x ∷ xs) (suc k) lt h = or_right (is_no_digit x) (list_any is_no_digit xs) (any_at xs k (omega arith) h)

pub still_wrong : (digits : List ℕ) (i : ℕ) (w a b : Bool) → 2 * i + 1 < length digits
    → a ≡ is_digit (get_or digits (2 * i) 0) → b ≡ is_digit (get_or digits (2 * i + 1) 0)
    → (w ≡ true → list_any is_no_digit digits ≡ true)
    → (w || not a) || not b ≡ true → list_any is_no_digit digits ≡ true
still_wrong digits i true a b fits ea eb was h = was refl
still_wrong digits i false false b fits ea eb was h = any_at digits (2 * i) (omega arith) (sym ea)
still_wrong digits i false true false fits ea eb was h = any_at digits (2 * i + 1) fits (sym eb)
still_wrong digits i false true true fits ea eb was h = cc h

-- ---- in blocks

pub block_read : (digits items block : List ℕ) (place n : ℕ) → place + 2 * n ≤ length digits
    → take place digits ≡ encode_lower items
    → slice_range digits place (place + 2 * n) ≡ encode_lower (take (length (slice_range digits place (place + 2 * n)) / 2) block)
    → take (place + 2 * n) digits ≡ encode_lower (items ++ take n block)
block_read digits items block place n fits e read =
    let minus : (place + 2 * n) - place ≡ 2 * n = omega arith in
    let piece : List ℕ = slice_range digits place (place + 2 * n) in
    let len : length piece ≡ 2 * n = range_length digits place (place + 2 * n) fits ∙ minus in
    let half : length piece / 2 ≡ n = omega (arith, len) in
    let cut : take (place + 2 * n) digits ≡ take place digits ++ piece = take-add place (2 * n) digits ∙ ap (λ (k : ℕ). take place digits ++ take k (drop place digits)) (sym minus) in
    let piece_is : piece ≡ encode_lower (take n block) = read ∙ ap (λ (k : ℕ). encode_lower (take k block)) half in
    cut ∙ ap (λ (l : List ℕ). l ++ piece) e ∙ ap (λ (l : List ℕ). encode_lower items ++ l) piece_is ∙ sym (encode_with-append lower_digits items (take n block))

-- a byte of a part that is no digit is one of all
any_before : (xs ys : List ℕ) → list_any is_no_digit xs ≡ true → list_any is_no_digit (xs ++ ys) ≡ true
any_before xs ys h = list_any-append is_no_digit xs ys ∙ ap (λ (b : Bool). b || list_any is_no_digit ys) h

any_after : (xs ys : List ℕ) → list_any is_no_digit ys ≡ true → list_any is_no_digit (xs ++ ys) ≡ true
any_after xs ys h = list_any-append is_no_digit xs ys ∙ or_right (list_any is_no_digit xs) (list_any is_no_digit ys) h

pub any_in_part : (digits : List ℕ) (a b : ℕ) → list_any is_no_digit (slice_range digits a b) ≡ true → list_any is_no_digit digits ≡ true
any_in_part digits a b h =
    let rest = any_before (take (b - a) (drop a digits)) (drop (b - a) (drop a digits)) h in
    let later : list_any is_no_digit (drop a digits) ≡ true = sym (ap (list_any is_no_digit) (take-append-drop (b - a) (drop a digits))) ∙ rest in
    sym (ap (list_any is_no_digit) (take-append-drop a digits)) ∙ any_after (take a digits) (drop a digits) later

-- what is written are digits
table_at : (table : List ℕ) → list_any is_no_digit table ≡ false → (k : ℕ) → k < length table → is_no_digit (get_or table k 0) ≡ false
table_at [] h k lt = absurd (omega arith)
table_at (x ∷ table) h zero lt = (or_parts (is_no_digit x) (list_any is_no_digit table) h).0
table_at (x ∷ table) h (suc k) lt = table_at table (or_parts (is_no_digit x) (list_any is_no_digit table) h).1 k (omega arith)

digits_written : (bytes : List ℕ) → IsBytes bytes → list_any is_no_digit (encode_lower bytes) ≡ false
unfolding encode_with
digits_written [] are = refl
digits_written (b ∷ bytes) are =
    let small : b < 256 = are 0 in
    let high : is_no_digit (get_or lower_digits (b / 16) 0) ≡ false = table_at lower_digits refl (b / 16) (omega arith) in
    let low : is_no_digit (get_or lower_digits (b % 16) 0) ≡ false = table_at lower_digits refl (b % 16) (omega arith) in
    or_from (is_no_digit (get_or lower_digits (b / 16) 0)) (is_no_digit (get_or lower_digits (b % 16) 0) || list_any is_no_digit (encode_lower bytes)) high
    (or_from (is_no_digit (get_or lower_digits (b % 16) 0)) (list_any is_no_digit (encode_lower bytes)) low (digits_written bytes (λ k. are (suc k))))

pub not_written : (digits bytes : List ℕ) → list_any is_no_digit digits ≡ true → IsBytes bytes → digits ≡ encode_lower bytes → ⊥
not_written digits bytes h are e =
    let no = digits_written bytes are in
    let yes : list_any is_no_digit (encode_lower bytes) ≡ true = sym (ap (list_any is_no_digit) e) ∙ h in
    cc (yes, no)

pub odd_not_written : (digits bytes : List ℕ) → length digits % 2 ≢ 0 → digits ≡ encode_lower bytes → ⊥
odd_not_written digits bytes odd e =
    let len : length digits ≡ 2 * length bytes = ap (λ (l : List ℕ). length l) e ∙ length-encode_with lower_digits bytes in
    odd (omega (arith, len))

-- ---- bytes

pub bytes_none : (xs : List ℕ) → xs ≡ [] → IsBytes xs
bytes_none xs e = rw e (λ i. omega arith)

bytes_append : (xs ys : List ℕ) → IsBytes xs → IsBytes ys → (i : ℕ) → slice_index (xs ++ ys) i < 256
bytes_append [] ys h k i = k i
bytes_append (x ∷ xs) ys h k zero = h 0
bytes_append (x ∷ xs) ys h k (suc i) = bytes_append xs ys (λ j. h (suc j)) k i

bytes_take : (n : ℕ) (xs : List ℕ) → IsBytes xs → (i : ℕ) → slice_index (take n xs) i < 256
bytes_take zero xs h i = omega arith
bytes_take (suc n) [] h i = omega arith
bytes_take (suc n) (x ∷ xs) h zero = h 0
bytes_take (suc n) (x ∷ xs) h (suc i) = bytes_take n xs (λ j. h (suc j)) i

pub bytes_more : (xs ys zs : List ℕ) (n : ℕ) → IsBytes xs → IsBytes ys → zs ≡ xs ++ take n ys → IsBytes zs
bytes_more xs ys zs n h k e = rw e (bytes_append xs (take n ys) h (bytes_take n ys k))

bytes_set : (xs : List ℕ) (i v : ℕ) → IsBytes xs → v < 256 → (k : ℕ) → slice_index (slice_set xs i v) k < 256
bytes_set [] zero v h lt k = h k
bytes_set [] (suc i) v h lt k = h k
bytes_set (x ∷ xs) zero v h lt zero = lt
bytes_set (x ∷ xs) zero v h lt (suc k) = h (suc k)
bytes_set (x ∷ xs) (suc i) v h lt zero = h 0
bytes_set (x ∷ xs) (suc i) v h lt (suc k) = bytes_set xs i v (λ j. h (suc j)) lt k

pub byte_put : (xs : List ℕ) (i v : ℕ) → IsBytes xs → IsBytes (slice_set xs i (v % 256))
byte_put xs i v h = bytes_set xs i (v % 256) h (omega arith)
