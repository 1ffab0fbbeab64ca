-- Parts of a text, in UTF-8.
use Rattle.std.proofs.Common.{◌≡◌, ◌≤◌, ◌∙◌, ap, sym, refl, ℕ, ◌-◌, min, Bool, true, false, ◌&&◌, nat_lt, List, [], ◌∷◌, ◌++◌, length, take, drop, chars, encode_utf8_all, arith, append_assoc}
use Rattle.std.specs.Prelude.{slice_range}
use Rattle.std.specs.Str.{IsAscii, IsUtf8}
use Rattle.std.proofs.lemmas.Bool.Decides.{nat_tests}
use Rattle.std.proofs.lemmas.Str.{IsAscii-take, IsAscii-drop, encodes-IsAscii, encodes-chars, encodes-append}
use Rattle.std.proofs.lemmas.List.{length-take, length-drop, take_min, nil_from_length}
use Rattle.std.proofs.lemmas.Str.Ascii.{IsAscii-nil, IsAscii-cons}
use Rattle.py_text.specs.Text.{all_ascii}

ascii_by : (b : ℕ) (bs : List ℕ) (t : Bool) → nat_lt b 128 ≡ t → (t && all_ascii bs) ≡ true → (all_ascii bs ≡ true → IsAscii bs) → IsAscii (b ∷ bs)
ascii_by b bs true e h next = IsAscii-cons b bs (grind (arith, nat_tests)) (next h)
ascii_by b bs false e h next = absurd (cc)

pub is_ascii : (bs : List ℕ) → all_ascii bs ≡ true → IsAscii bs
is_ascii [] h = IsAscii-nil
is_ascii (b ∷ bs) h = ascii_by b bs (nat_lt b 128) refl h (is_ascii bs)

-- a part of an ASCII text is its own UTF-8
pub ascii_part : (bs : List ℕ) (a b : ℕ) → IsAscii bs → encode_utf8_all (slice_range bs a b) ≡ slice_range bs a b
ascii_part bs a b h = encodes-IsAscii (slice_range bs a b) (IsAscii-take (drop a bs) (b - a) (IsAscii-drop bs a h))

-- the UTF-8 of an ASCII text is the text
pub ascii_bytes : (s bytes : List ℕ) → all_ascii s ≡ true → bytes ≡ encode_utf8_all s → bytes ≡ s
ascii_bytes s bytes h e = e ∙ encodes-IsAscii s (is_ascii s h)

-- the bytes of a part are the UTF-8 of its code points
pub text_part : (part points : List ℕ) → IsUtf8 part → chars part ≡ points → part ≡ encode_utf8_all points
text_part part points t e = sym (encodes-chars part t) ∙ ap encode_utf8_all e

-- one part more, and what is still to come
pub one_more : (was new part rest : List ℕ) → new ≡ was ++ encode_utf8_all part → new ++ encode_utf8_all rest ≡ was ++ encode_utf8_all (part ++ rest)
one_more was new part rest e =
    ap (λ (l : List ℕ). l ++ encode_utf8_all rest) e
    ∙ append_assoc was (encode_utf8_all part) (encode_utf8_all rest)
    ∙ ap (λ (l : List ℕ). was ++ l) (sym (encodes-append part rest))

-- the UTF-8 of three parts, one appended after another
pub three_parts : (was gap filled rest new : List ℕ) → new ≡ (was ++ encode_utf8_all gap) ++ encode_utf8_all filled → new ++ encode_utf8_all rest ≡ was ++ encode_utf8_all (gap ++ (filled ++ rest))
three_parts was gap filled rest new e =
    one_more (was ++ encode_utf8_all gap) new filled rest e
    ∙ one_more was (was ++ encode_utf8_all gap) gap (filled ++ rest) refl

-- a part that ends before it begins, or begins after the end, has nothing
pub nothing_between : (s : List ℕ) (a b : ℕ) → min b (length s) ≤ a → slice_range s a b ≡ []
nothing_between s a b h = nil_from_length (slice_range s a b) (omega (arith, h, length-take (b - a) (drop a s), length-drop a s))

-- no part goes past the end
pub cut_between : (s : List ℕ) (a b : ℕ) → slice_range s a (min b (length s)) ≡ slice_range s a b
cut_between s a b =
    let n : min b (length s) - a ≡ min (b - a) (length (drop a s)) = omega (arith, length-drop a s) in
    ap (λ (k : ℕ). take k (drop a s)) n ∙ take_min (b - a) (drop a s)
