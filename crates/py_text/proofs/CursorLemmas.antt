-- A place in a text, and the bytes before it.
use Rattle.std.proofs.Common.{◌≡◌, ◌∙◌, ◌+◌, ◌-◌, ◌≤◌, ℕ, zero, suc, List, [], ◌∷◌, ◌++◌, length, drop, sym, ap, refl, arith, chars, encode_utf8, encode_utf8_all, Some, None, true, subst}
use Rattle.std.specs.Prelude.{slice_get, slice_range}
use Rattle.std.specs.Char.{len_utf8}
use Rattle.std.specs.Str.{IsUtf8, IsCharBoundary}
use Rattle.std.proofs.lemmas.Str.{IsCharBoundary-past_char, IsCharBoundary-from_ascii, drop_past_char, chars_past_char}
use Rattle.std.proofs.lemmas.List.{length-drop, drop-drop}
use Rattle.py_text.specs.Text.{all_ascii}
use Rattle.py_text.specs.Iterator.{IsCursor}
use Rattle.py_text.proofs.PointLemmas.{is_ascii, chars_ascii}
use Rattle.py_text.proofs.AsciiLemmas.{ascii_bytes, ascii_drop, ascii_take}

-- the code points from a place on, where a character begins there
pub at_cursor : (text bs rest next : List ℕ) (place offset c : ℕ) → IsCursor text place offset → bs ≡ encode_utf8_all text → rest ≡ drop offset bs → IsUtf8 rest → rest ≡ encode_utf8 c ++ next → drop place text ≡ c ∷ chars next
at_cursor text bs rest next place offset c w e r u h = sym w.after ∙ ap (λ (l : List ℕ). chars (drop offset l)) (sym e) ∙ sym (ap chars r) ∙ chars_past_char rest next c u h

get_of_drop : (L xs : List ℕ) (n x : ℕ) → drop n L ≡ x ∷ xs → slice_get L n ≡ Some x
get_of_drop [] xs zero x h = absurd (cc)
get_of_drop [] xs (suc n) x h = absurd (cc)
get_of_drop (y ∷ ys) xs zero x h = let e : y ≡ x = cc in ap Some e
get_of_drop (y ∷ ys) xs (suc n) x h = get_of_drop ys xs n x h

pub item_at_cursor : (text bs rest next : List ℕ) (place offset c : ℕ) → IsCursor text place offset → bs ≡ encode_utf8_all text → rest ≡ drop offset bs → IsUtf8 rest → rest ≡ encode_utf8 c ++ next → slice_get text place ≡ Some c
item_at_cursor text bs rest next place offset c w e r u h = get_of_drop text (chars next) place c (at_cursor text bs rest next place offset c w e r u h)

pub inside_cursor : (text bs rest next : List ℕ) (place offset c : ℕ) → IsCursor text place offset → bs ≡ encode_utf8_all text → rest ≡ drop offset bs → IsUtf8 rest → rest ≡ encode_utf8 c ++ next → place + 1 ≤ length text
inside_cursor text bs rest next place offset c w e r u h = omega (arith, length-drop place text, ap length (at_cursor text bs rest next place offset c w e r u h))

-- one character on
pub cursor_on : (text bs rest next : List ℕ) (place offset c : ℕ) → IsCursor text place offset → bs ≡ encode_utf8_all text → rest ≡ drop offset bs → IsUtf8 rest → rest ≡ encode_utf8 c ++ next → IsCursor text (place + 1) (offset + len_utf8 c)
cursor_on text bs rest next place offset c w e r u h =
    let left : drop offset (encode_utf8_all text) ≡ encode_utf8 c ++ next = ap (drop offset) (sym e) ∙ sym r ∙ h in
    let utf8 : IsUtf8 (drop offset (encode_utf8_all text)) = subst IsUtf8 (r ∙ ap (drop offset) e) u in
    let one : drop 1 (drop place text) ≡ chars next = ap (drop 1) (at_cursor text bs rest next place offset c w e r u h) in
    record {
      inside = inside_cursor text bs rest next place offset c w e r u h;
      boundary = IsCharBoundary-past_char (encode_utf8_all text) next offset c w.boundary.0 utf8 left;
      after = ap chars (drop_past_char (encode_utf8_all text) next offset c left) ∙ sym one ∙ drop-drop 1 place text;
    }

-- nothing is at the end
pub past_end : (L : List ℕ) (n : ℕ) → length L ≤ n → slice_get L n ≡ None
past_end [] n h = refl
past_end (x ∷ xs) zero h = absurd (omega arith)
past_end (x ∷ xs) (suc n) h = past_end xs n (omega arith)

-- on an ASCII text a place is its byte
pub ascii_boundary : (bytes L : List ℕ) (n : ℕ) → bytes ≡ encode_utf8_all L → all_ascii L ≡ true → n ≤ length L → IsCharBoundary bytes n
ascii_boundary bytes L n e h i =
    let same : bytes ≡ L = e ∙ ascii_bytes L h in
    subst (λ (l : List ℕ). IsCharBoundary l n) (sym same) (IsCharBoundary-from_ascii L n (is_ascii L h) i)

pub ascii_behind : (L : List ℕ) (n : ℕ) → all_ascii L ≡ true → chars (drop n (encode_utf8_all L)) ≡ drop n L
ascii_behind L n h = ap (λ (l : List ℕ). chars (drop n l)) (ascii_bytes L h) ∙ chars_ascii (drop n L) (ascii_drop n L h)

pub ascii_piece : (bytes L : List ℕ) (a b : ℕ) → bytes ≡ encode_utf8_all L → all_ascii L ≡ true → chars (slice_range bytes a b) ≡ slice_range L a b
ascii_piece bytes L a b e h = ap (λ (l : List ℕ). chars (slice_range l a b)) (e ∙ ascii_bytes L h) ∙ chars_ascii (slice_range L a b) (ascii_take (b - a) (drop a L) (ascii_drop a L h))
