-- What is written of quoted characters, one after the other.
use Rattle.std.proofs.Common.{◌≡◌, ℕ, ◌+◌, ◌<◌, Bool, List, [], ◌∷◌, ◌++◌, length, take, get_or, chars, encode_utf8, encode_utf8_all, flat_map, ap, sym, ◌∙◌, append_assoc, append-nil}
use Rattle.std.proofs.lemmas.Grind.{flat_map-append}
use Rattle.std.proofs.lemmas.List.{take_more, nil_from_length}
use Rattle.std.proofs.lemmas.Str.{encodes-append, chars_past_char, chars-nil}
use Rattle.std.specs.Str.{IsUtf8}
use Rattle.py_base.specs.Chars.Quoting.{quoted_char, quoted_chars}

-- a text between two quotes
pub in_quotes : (q : ℕ) (body : List ℕ) → encode_utf8_all (q ∷ (body ++ q ∷ [])) ≡ encode_utf8 q ++ (encode_utf8_all body ++ encode_utf8 q)
in_quotes q body = ap (λ (l : List ℕ). encode_utf8 q ++ l) (encodes-append body (q ∷ []) ∙ ap (λ (l : List ℕ). encode_utf8_all body ++ l) (append-nil (encode_utf8 q)))

-- one more character of a text, from its front
pub quoted_on : (q : ℕ) (plain : ℕ → Bool) (c : ℕ) (bs rest done whole : List ℕ) → IsUtf8 bs → bs ≡ encode_utf8 c ++ rest
    → done ++ encode_utf8_all (quoted_chars q plain (chars bs)) ≡ whole
    → (done ++ encode_utf8_all (quoted_char q (plain c) c)) ++ encode_utf8_all (quoted_chars q plain (chars rest)) ≡ whole
quoted_on q plain c bs rest done whole u e h =
    append_assoc done _ _
    ∙ ap (λ (l : List ℕ). done ++ l) (sym (encodes-append (quoted_char q (plain c) c) (quoted_chars q plain (chars rest))))
    ∙ ap (λ (l : List ℕ). done ++ encode_utf8_all (quoted_chars q plain l)) (sym (chars_past_char bs rest c u e))
    ∙ h

-- nothing is left
pub quoted_end : (q : ℕ) (plain : ℕ → Bool) (bs done whole : List ℕ) → length bs ≡ 0 → done ++ encode_utf8_all (quoted_chars q plain (chars bs)) ≡ whole → done ≡ whole
quoted_end q plain bs done whole none h =
    sym (append-nil done)
    ∙ ap (λ (l : List ℕ). done ++ encode_utf8_all (quoted_chars q plain l)) (sym (ap chars (nil_from_length bs none) ∙ chars-nil))
    ∙ h

-- one more of some bytes, by their number
pub quoted_more : (q : ℕ) (plain : ℕ → Bool) (bs : List ℕ) (i : ℕ) → i < length bs
    → encode_utf8_all (quoted_chars q plain (take i bs)) ++ encode_utf8_all (quoted_char q (plain (get_or bs i 0)) (get_or bs i 0)) ≡ encode_utf8_all (quoted_chars q plain (take (i + 1) bs))
quoted_more q plain bs i lt =
    let one = λ (c : ℕ). quoted_char q (plain c) c in
    let b = get_or bs i 0 in
    sym (encodes-append (flat_map one (take i bs)) (one b))
    ∙ ap (λ (l : List ℕ). encode_utf8_all (flat_map one (take i bs) ++ l)) (sym (append-nil (one b)))
    ∙ ap encode_utf8_all (sym (flat_map-append one (take i bs) (b ∷ [])))
    ∙ ap (λ (l : List ℕ). encode_utf8_all (flat_map one l)) (sym (take_more bs i 0 lt))
