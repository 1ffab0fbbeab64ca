-- A text with zeros after its sign.
use Rattle.std.proofs.Common.{◌≡◌, ◌∙◌, ℕ, Bool, true, false, if◌then◌else◌, List, [], ◌∷◌, ◌++◌, sym, ap, append_assoc, length, chars, IsUtf8}
use Rattle.std.specs.Char.{encode_utf8}
use Rattle.std.proofs.lemmas.List.{nil_from_length}
use Rattle.std.proofs.lemmas.Str.{chars_past_char, chars-nil}
use Rattle.py_str.specs.Pad.{is_sign, sign_parts}

pub sign_yes : (bs rest next : List ℕ) (c : ℕ) → IsUtf8 bs → bs ≡ encode_utf8 c ++ rest → is_sign c ≡ true → next ≡ rest → sign_parts (chars bs) ≡ (c ∷ [], chars next)
sign_yes bs rest next c u e h n =
    ap sign_parts (chars_past_char bs rest c u e) ∙ ap (λ (b : Bool). if b then (c ∷ [], chars rest) else ([], c ∷ chars rest)) h ∙ ap (λ (l : List ℕ). (c ∷ [], chars l)) (sym n)

pub sign_no : (bs rest : List ℕ) (c : ℕ) → IsUtf8 bs → bs ≡ encode_utf8 c ++ rest → is_sign c ≡ false → sign_parts (chars bs) ≡ ([], chars bs)
sign_no bs rest c u e h =
    ap sign_parts (chars_past_char bs rest c u e) ∙ ap (λ (b : Bool). if b then (c ∷ [], chars rest) else ([], c ∷ chars rest)) h ∙ ap (λ (l : List ℕ). ([], l)) (sym (chars_past_char bs rest c u e))

pub sign_none : (bs : List ℕ) → length bs ≡ 0 → sign_parts (chars bs) ≡ ([], chars bs)
sign_none bs h =
    let e : chars bs ≡ [] = ap chars (nil_from_length bs h) ∙ chars-nil in
    ap sign_parts e ∙ ap (λ (l : List ℕ). ([], l)) (sym e)

pub zeros_pushed : (old one two three L p q r : List ℕ) → sign_parts L ≡ (p, q) → one ≡ old ++ p → two ≡ one ++ r → three ≡ two ++ q → three ≡ old ++ ((sign_parts L).0 ++ (r ++ (sign_parts L).1))
zeros_pushed old one two three L p q r s o w h =
    h ∙ ap (λ (x : List ℕ). x ++ q) (w ∙ ap (λ (x : List ℕ). x ++ r) o) ∙ append_assoc (old ++ p) r q ∙ append_assoc old p (r ++ q)
    ∙ ap (λ (x : List ℕ × List ℕ). old ++ (x.0 ++ (r ++ x.1))) (sym s)
