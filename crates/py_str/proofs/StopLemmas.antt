-- The first tab, CR or LF of a text, and its ASCII characters, found among the bytes.
use Rattle.std.proofs.Common.{◌≡◌, ◌∙◌, ◌+◌, ◌<◌, ◌≤◌, ℕ, zero, suc, inl, inr, Bool, true, false, not, ◌&&◌, ◌||◌, nat_eq, if◌then◌else◌, List, [], ◌∷◌, ◌++◌, length, take, drop, get_or, take_while, sym, ap, refl, subst, append-nil, arith, chars, IsUtf8, IsCharBoundary, length-append, length-drop}
use Rattle.std.proofs.Math.Seq.{take-length}
use Rattle.std.proofs.lemmas.Bool.{cases_lt}
use Rattle.std.proofs.lemmas.Bool.Decides.{nat_tests}
use Rattle.std.proofs.lemmas.List.{drop_more, get_or-append-add, get_or-take, length-take-le, take-append-drop}
use Rattle.std.proofs.lemmas.List.Folds.{list_any-append}
use Rattle.std.proofs.lemmas.List.Sums.{take_while-cons}
use Rattle.std.proofs.lemmas.Str.{byte_from_char, chars-append, encode_ascii, encodes-chars, inside_one, length-encode, len_utf8_bounds, IsCharBoundary-before_ascii, IsCharBoundary-after_ascii, IsCharBoundary-end, IsUtf8-take, IsUtf8-drop}
use Rattle.std.specs.Char.{encode_utf8, len_utf8}
use Rattle.std.specs.List.{list_any, list_all}
use Rattle.std.specs.Prelude.{encode_utf8_all}
use Rattle.memchr.specs.Find.{is_byte3, NoneBefore, Nowhere, Passes}
use Rattle.py_base.specs.Chars.Whitespace.{skip_while}
use Rattle.py_str.specs.Tabs.{is_inside}
use Rattle.py_str.specs.Passing.{IsPassed}

abbrev is_stop : ℕ → Bool
is_stop = is_byte3 9 10 13

-- the bytes before a place are no tab, CR or LF
abbrev NoStop : List ℕ → Type 0
NoStop bs = (k : ℕ) → k < length bs → ¬ (is_stop (get_or bs k 0) ≡ true)

stop_small : (b : ℕ) → is_stop b ≡ true → b < 128
stop_small b h = grind (arith, nat_tests)

inside_or : (b : Bool) → (b ≡ true → ⊥) → not b ≡ true
inside_or true h = absurd (h refl)
inside_or false h = refl

inside_first : (c : ℕ) (bs rest : List ℕ) → bs ≡ encode_utf8 c ++ rest → NoStop bs → is_inside c ≡ true
inside_first c bs rest e h =
    inside_or (is_stop c) (λ s.
    h 0 (omega (arith, ap length e, length-append (encode_utf8 c) rest, length-encode c, len_utf8_bounds c))
    (ap is_stop (byte_from_char bs rest c e (stop_small c s)) ∙ s))

rest_clean : (c : ℕ) (bs rest : List ℕ) → bs ≡ encode_utf8 c ++ rest → NoStop bs → NoStop rest
rest_clean c bs rest e h = λ k l s.
    h (length (encode_utf8 c) + k) (omega (arith, ap length e, length-append (encode_utf8 c) rest))
    (ap is_stop (ap (λ (x : List ℕ). get_or x (length (encode_utf8 c) + k) 0) e ∙ get_or-append-add (encode_utf8 c) rest k 0) ∙ s)

both_true : (a b : Bool) → a ≡ true → b ≡ true → (a && b) ≡ true
both_true a b h k = ap (λ (x : Bool). x && b) h ∙ k

inside_all : (cs bs : List ℕ) → bs ≡ encode_utf8_all cs → NoStop bs → list_all is_inside cs ≡ true
inside_all [] bs e h = refl
inside_all (c ∷ cs) bs e h =
    both_true (is_inside c) (list_all is_inside cs) (inside_first c bs (encode_utf8_all cs) e h) (inside_all cs (encode_utf8_all cs) refl (rest_clean c bs (encode_utf8_all cs) e h))

and_first : (a b : Bool) → (a && b) ≡ true → a ≡ true
and_first true b h = refl
and_first false b h = absurd (cc)

and_second : (a b : Bool) → (a && b) ≡ true → b ≡ true
and_second true b h = h
and_second false b h = absurd (cc)

take_all : (q : ℕ → Bool) (xs ys : List ℕ) → list_all q xs ≡ true → take_while q (xs ++ ys) ≡ xs ++ take_while q ys
take_all q [] ys h = refl
take_all q (x ∷ xs) ys h =
    take_while-cons q x (xs ++ ys) ∙ ap (λ (b : Bool). if b then x ∷ take_while q (xs ++ ys) else []) (and_first (q x) (list_all q xs) h)
    ∙ ap (λ (l : List ℕ). x ∷ l) (take_all q xs ys (and_second (q x) (list_all q xs) h))

skip_all : (q : ℕ → Bool) (xs ys : List ℕ) → list_all q xs ≡ true → skip_while q (xs ++ ys) ≡ skip_while q ys
skip_all q [] ys h = refl
skip_all q (x ∷ xs) ys h =
    ap (λ (b : Bool). if b then skip_while q (xs ++ ys) else x ∷ (xs ++ ys)) (and_first (q x) (list_all q xs) h)
    ∙ skip_all q xs ys (and_second (q x) (list_all q xs) h)

-- where no byte before a place is a tab, CR or LF, the characters before it are passed
pub passed_clean : (s : List ℕ) (at : ℕ) → IsUtf8 s → IsCharBoundary s at → at ≤ length s → NoStop (take at s) → IsPassed is_inside s (drop at s) at
passed_clean s at u b l h =
    let front : IsUtf8 (take at s) = IsUtf8-take s at u b in
    let parts : s ≡ take at s ++ drop at s = sym (take-append-drop at s) in
    let points : chars s ≡ chars (take at s) ++ chars (drop at s) = ap chars parts ∙ chars-append (take at s) (drop at s) front in
    let inside : list_all is_inside (chars (take at s)) ≡ true = inside_all (chars (take at s)) (take at s) (sym (encodes-chars (take at s) front)) h in
    record {
      front = take at s;
      parts = parts;
      front_utf8 = front;
      rest_utf8 = IsUtf8-drop s at u b;
      place = length-take-le at s l;
      taken = ap (take_while is_inside) points ∙ take_all is_inside (chars (take at s)) (chars (drop at s)) inside;
      skipped = ap (skip_while is_inside) points ∙ skip_all is_inside (chars (take at s)) (chars (drop at s)) inside;
    }

-- a stop, and what is after it
pub stop_splits : (s : List ℕ) (at : ℕ) → at < length s → is_stop (get_or s at 0) ≡ true → drop at s ≡ encode_utf8 (get_or s at 0) ++ drop (at + 1) s
stop_splits s at l h = drop_more s at 0 l ∙ ap (λ (x : List ℕ). x ++ drop (at + 1) s) (sym (encode_ascii (get_or s at 0) (stop_small (get_or s at 0) h)))

pub stop_fails : (b : ℕ) → is_stop b ≡ true → is_inside b ≡ false
stop_fails b h = ap not h

pub stop_begins : (s : List ℕ) (at : ℕ) → at < length s → is_stop (get_or s at 0) ≡ true → IsCharBoundary s at
stop_begins s at l h = IsCharBoundary-before_ascii s at l (stop_small (get_or s at 0) h)

-- the first tab, CR or LF is at a place
pub record IsFirstStop (s : List ℕ) (at : ℕ) : Type 0 where
  pub within : at < length s
  pub stop : is_stop (get_or s at 0) ≡ true
  pub clean : NoStop (take at s)

found_in : (bs : List ℕ) (at : ℕ) → NoneBefore (Passes is_stop bs) 0 (length bs) at → Passes is_stop bs at → IsFirstStop bs at
found_in bs at before here =
    let size : length (take at bs) ≡ at = length-take-le at bs (omega (arith, before.high)) in
    record {
      within = before.high;
      stop = here;
      clean = λ k l p. before.before k (omega arith) (omega (arith, size, l)) (ap is_stop (sym (get_or-take at bs k 0 (omega (arith, size, l)))) ∙ p);
    }

pub found : (s bs : List ℕ) (at : ℕ) → bs ≡ s → NoneBefore (Passes is_stop bs) 0 (length bs) at → Passes is_stop bs at → IsFirstStop s at
found s bs at e before here = subst (λ (x : List ℕ). IsFirstStop x at) e (found_in bs at before here)

pub passed_found : (s : List ℕ) (at : ℕ) → IsUtf8 s → IsFirstStop s at → IsPassed is_inside s (drop at s) at
passed_found s at u f = passed_clean s at u (stop_begins s at f.within f.stop) (omega (arith, f.within)) f.clean

pub found_ends : (s : List ℕ) (at : ℕ) → IsUtf8 s → IsFirstStop s at → IsCharBoundary s (at + 1)
found_ends s at u f = IsCharBoundary-after_ascii s at u f.within (stop_small (get_or s at 0) f.stop)

-- where none is, all characters are passed
pub passed_whole : (s bs : List ℕ) → bs ≡ s → IsUtf8 s → Nowhere (Passes is_stop bs) 0 (length bs) → IsPassed is_inside s (drop (length s) s) (length s)
passed_whole s bs e u h =
    let clean : NoStop s = subst NoStop e (λ k l p. h k (omega arith) l p) in
    passed_clean s (length s) u (IsCharBoundary-end s) (omega arith) (subst NoStop (sym (take-length s)) clean)

pub none_left : (s : List ℕ) → length (drop (length s) s) ≡ 0
none_left s = omega (arith, length-drop (length s) s)

-- no byte of some is m
none_is : (m : ℕ) (xs : List ℕ) → m < 128 → ((k : ℕ) → k < length xs → 128 ≤ get_or xs k 0) → list_any (λ y. nat_eq y m) xs ≡ false
none_is m [] l h = refl
none_is m (x ∷ xs) l h =
    let here : 128 ≤ x = h 0 (omega arith) in
    let other : nat_eq x m ≡ false = grind (arith, nat_tests) in
    ap (λ (b : Bool). b || list_any (λ y. nat_eq y m) xs) other ∙ none_is m xs l (λ k lt. h (suc k) (omega arith))

or_none : (a : Bool) → (a || false) ≡ a
or_none true = refl
or_none false = refl

-- a character has the byte m where it is m
one_is : (m c : ℕ) → m < 128 → list_any (λ y. nat_eq y m) (encode_utf8 c) ≡ nat_eq c m
one_is m c l = elim (cases_lt c 128) [
  | inl small ↦ ap (list_any (λ y. nat_eq y m)) (encode_ascii c small) ∙ or_none (nat_eq c m)
  | inr large ↦
      let other : nat_eq c m ≡ false = grind (arith, nat_tests) in
      none_is m (encode_utf8 c) l (λ k lt. elim (cases_lt (get_or (encode_utf8 c) k 0) 128) [
        | inl low ↦ absurd (omega (arith, inside_one c [] (encode_utf8 c) k (sym (append-nil (encode_utf8 c))) lt low))
        | inr high ↦ high
      ]) ∙ sym other
]

bytes_any : (m : ℕ) (cs : List ℕ) → m < 128 → list_any (λ y. nat_eq y m) (encode_utf8_all cs) ≡ list_any (λ y. nat_eq y m) cs
bytes_any m [] l = refl
bytes_any m (c ∷ cs) l =
    list_any-append (λ y. nat_eq y m) (encode_utf8 c) (encode_utf8_all cs)
    ∙ ap (λ (b : Bool). b || list_any (λ y. nat_eq y m) (encode_utf8_all cs)) (one_is m c l)
    ∙ ap (λ (b : Bool). nat_eq c m || b) (bytes_any m cs l)

-- a text has an ASCII character where it has that byte
pub byte_is_char : (m : ℕ) (s : List ℕ) → IsUtf8 s → m < 128 → list_any (λ y. nat_eq y m) s ≡ list_any (λ y. nat_eq y m) (chars s)
byte_is_char m s u l = ap (list_any (λ y. nat_eq y m)) (sym (encodes-chars s u)) ∙ bytes_any m (chars s) l
