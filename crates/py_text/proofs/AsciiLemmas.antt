-- Texts whose code points are below 128.
use Rattle.std.proofs.Common.{◌≡◌, ◌∙◌, ◌<◌, ◌-◌, ◌+◌, ℕ, suc, zero, Bool, true, false, cond, if◌then◌else◌, reverse, take_while, Option, nat_lt, List, [], ◌∷◌, ◌++◌, take, drop, length, refl, arith, sym, ap, get_or, chars, encode_utf8_all, slice_range}
use Rattle.std.proofs.lemmas.Bool.Decides.{nat_tests}
use Rattle.std.specs.Str.{IsAscii, IsUtf8}
use Rattle.std.proofs.lemmas.Str.{IsAscii-take, IsAscii-drop, IsAscii-append, encodes-IsAscii, encodes-chars}
use Rattle.std.specs.Prelude.{slice_get, Some}
use Rattle.std.proofs.Common.{subst}
use Rattle.std.proofs.lemmas.List.{reverse-append, reverse-reverse}
use Rattle.std.proofs.lemmas.List.Sums.{take_while-cons}
use Rattle.py_base.specs.Chars.Whitespace.{skip_while}
use Rattle.py_text.specs.Text.{all_ascii}
use Rattle.py_text.specs.Occurrences.{IsAround}
use Rattle.py_text.proofs.PointLemmas.{is_ascii}

first_below : (b : ℕ) → b < 128 → nat_lt b 128 ≡ true
first_below b h = grind (arith, nat_tests)

pub all_from : (bs : List ℕ) → IsAscii bs → all_ascii bs ≡ true
all_from [] h = refl
all_from (b ∷ bs) h = rw (first_below b (h 0)) (all_from bs (λ i. h (suc i)))

pub ascii_take : (n : ℕ) (L : List ℕ) → all_ascii L ≡ true → all_ascii (take n L) ≡ true
ascii_take n L h = all_from (take n L) (IsAscii-take L n (is_ascii L h))

pub ascii_drop : (n : ℕ) (L : List ℕ) → all_ascii L ≡ true → all_ascii (drop n L) ≡ true
ascii_drop n L h = all_from (drop n L) (IsAscii-drop L n (is_ascii L h))

pub ascii_append : (xs ys : List ℕ) → all_ascii xs ≡ true → all_ascii ys ≡ true → all_ascii (xs ++ ys) ≡ true
ascii_append xs ys h k = all_from (xs ++ ys) (IsAscii-append xs ys (is_ascii xs h) (is_ascii ys k))

pub ascii_first : (x : ℕ) (xs : List ℕ) → all_ascii (x ∷ xs) ≡ true → all_ascii (x ∷ []) ≡ true
ascii_first x xs h = ascii_take 1 (x ∷ xs) h

-- the bytes of an ASCII text are its code points
pub ascii_bytes : (L : List ℕ) → all_ascii L ≡ true → encode_utf8_all L ≡ L
ascii_bytes L h = encodes-IsAscii L (is_ascii L h)

pub ascii_count : (bs : List ℕ) → IsUtf8 bs → all_ascii (chars bs) ≡ true → length bs ≡ length (chars bs)
ascii_count bs u h = ap length (sym (encodes-chars bs u) ∙ ascii_bytes (chars bs) h)

-- one byte of an ASCII text
pub ascii_at : (L : List ℕ) (n x : ℕ) → slice_get L n ≡ Some x → all_ascii L ≡ true → all_ascii (x ∷ []) ≡ true
ascii_at [] n x h a = absurd (cc)
ascii_at (y ∷ ys) zero x h a = let e : y ≡ x = cc in subst (λ z. all_ascii (z ∷ []) ≡ true) e (ascii_first y ys a)
ascii_at (y ∷ ys) (suc n) x h a = ascii_at ys n x h (ascii_drop 1 (y ∷ ys) a)

pub ascii_pushed : (kept new rest : List ℕ) (n x : ℕ) → slice_get rest n ≡ Some x → new ≡ kept ++ x ∷ [] → all_ascii kept ≡ true → all_ascii rest ≡ true → all_ascii new ≡ true
ascii_pushed kept new rest n x h e a b = ap all_ascii e ∙ ascii_append kept (x ∷ []) a (ascii_at rest n x h b)

-- a part of an ASCII text, by its bytes
pub ascii_part : (bytes part L : List ℕ) (a b : ℕ) → bytes ≡ part → IsUtf8 part → chars part ≡ slice_range L a b → all_ascii L ≡ true → bytes ≡ slice_range L a b
ascii_part bytes part L a b e u h all = e ∙ sym (encodes-chars part u) ∙ ap encode_utf8_all h ∙ ascii_bytes (slice_range L a b) (ascii_take (b - a) (drop a L) (ascii_drop a L all))

pub ascii_range : (bytes part L : List ℕ) (a b : ℕ) → bytes ≡ part → IsUtf8 part → chars part ≡ slice_range L a b → all_ascii L ≡ true → all_ascii bytes ≡ true
ascii_range bytes part L a b e u h all = ap all_ascii (ascii_part bytes part L a b e u h all) ∙ ascii_take (b - a) (drop a L) (ascii_drop a L all)

-- the item at a place that is there
pub item_there : (L : List ℕ) (n : ℕ) → n < length L → slice_get L n ≡ Some (get_or L n 0)
item_there [] n h = absurd (omega arith)
item_there (x ∷ xs) zero h = refl
item_there (x ∷ xs) (suc n) h = item_there xs n (omega arith)

-- what is before and after a part of an ASCII text
pub ascii_before : (x L : List ℕ) (place : Option ℕ) (front back : List ℕ) → IsAround x L place front back → all_ascii L ≡ true → all_ascii front ≡ true
ascii_before x L place front back w h = ap all_ascii w.2 ∙ ascii_take w.0 L h

pub ascii_after : (x L : List ℕ) (place : Option ℕ) (front back : List ℕ) → IsAround x L place front back → all_ascii L ≡ true → all_ascii back ≡ true
ascii_after x L place front back w h = ap all_ascii w.3 ∙ ascii_drop (w.0 + length x) L h

-- an ASCII text from its last code point on
pub ascii_reversed : (L : List ℕ) → all_ascii L ≡ true → all_ascii (reverse L) ≡ true
ascii_reversed [] h = refl
ascii_reversed (x ∷ xs) h = ap all_ascii (reverse-append (x ∷ []) xs) ∙ ascii_append (reverse xs) (x ∷ []) (ascii_reversed xs (ascii_drop 1 (x ∷ xs) h)) (ascii_first x xs h)

pub ascii_turned : (L M : List ℕ) → reverse L ≡ M → all_ascii M ≡ true → all_ascii L ≡ true
ascii_turned L M e h = ap all_ascii (sym (reverse-reverse L) ∙ ap reverse e) ∙ ascii_reversed M h

-- a part of an ASCII text that ends or begins where a test says
skipped_by : (q : ℕ → Bool) (c : ℕ) (cs : List ℕ) (t : Bool) → q c ≡ t → all_ascii (c ∷ cs) ≡ true → all_ascii (skip_while q cs) ≡ true → all_ascii (skip_while q (c ∷ cs)) ≡ true
skipped_by q c cs true e h more = ap (λ t. all_ascii (if t then skip_while q cs else c ∷ cs)) e ∙ more
skipped_by q c cs false e h more = ap (λ t. all_ascii (if t then skip_while q cs else c ∷ cs)) e ∙ h

pub ascii_skipped : (q : ℕ → Bool) (L : List ℕ) → all_ascii L ≡ true → all_ascii (skip_while q L) ≡ true
ascii_skipped q [] h = refl
ascii_skipped q (c ∷ cs) h = skipped_by q c cs (q c) refl h (ascii_skipped q cs (ascii_drop 1 (c ∷ cs) h))

kept_by : (q : ℕ → Bool) (c : ℕ) (cs : List ℕ) (t : Bool) → q c ≡ t → all_ascii (c ∷ cs) ≡ true → all_ascii (take_while q cs) ≡ true → all_ascii (take_while q (c ∷ cs)) ≡ true
kept_by q c cs true e h more = ap all_ascii (take_while-cons q c cs ∙ ap (λ b. cond b (c ∷ take_while q cs) []) e) ∙ ascii_append (c ∷ []) (take_while q cs) (ascii_first c cs h) more
kept_by q c cs false e h more = ap all_ascii (take_while-cons q c cs ∙ ap (λ b. cond b (c ∷ take_while q cs) []) e)

pub ascii_kept : (q : ℕ → Bool) (L : List ℕ) → all_ascii L ≡ true → all_ascii (take_while q L) ≡ true
ascii_kept q [] h = refl
ascii_kept q (c ∷ cs) h = kept_by q c cs (q c) refl h (ascii_kept q cs (ascii_drop 1 (c ∷ cs) h))
