-- Characters of a text, taken one after another.
use Rattle.std.proofs.Common.{◌≡◌, ◌∙◌, ℕ, List, [], ◌∷◌, ◌++◌, length, sym, ap, append_assoc, append-nil, chars, encode_utf8}
use Rattle.std.specs.Str.{IsUtf8}
use Rattle.std.proofs.lemmas.List.{nil_from_length}
use Rattle.std.proofs.lemmas.Str.{chars-nil, chars_past_char}

-- one character more
pub one_taken : (done bs rest : List ℕ) (c : ℕ) (whole : List ℕ) → IsUtf8 bs → bs ≡ encode_utf8 c ++ rest → done ++ chars bs ≡ whole → (done ++ c ∷ []) ++ chars rest ≡ whole
one_taken done bs rest c whole u e g = append_assoc done (c ∷ []) (chars rest) ∙ ap (λ (l : List ℕ). done ++ l) (sym (chars_past_char bs rest c u e)) ∙ g

-- none left
pub all_taken : (done bs whole : List ℕ) → length bs ≡ 0 → done ++ chars bs ≡ whole → done ≡ whole
all_taken done bs whole none g = sym (append-nil done) ∙ ap (λ (l : List ℕ). done ++ l) (sym (ap chars (nil_from_length bs none) ∙ chars-nil)) ∙ g
