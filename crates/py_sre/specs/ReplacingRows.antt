-- Worked rows, which compute.
use Rattle.std.specs.Prelude.{◌≡◌, refl, ℕ, true, false, List, [], ◌∷◌, codes}
use Rattle.sre_match.specs.Matches.{Span}
use Rattle.py_sre.specs.Replacing.{Replacement, literal, group, replaced, is_reached}

-- the spans of `(a)|b` in `ab`
abbrev pub a_then_b : List Span
a_then_b =
    record { start = 0; stop = 1; marks = record { group = 1; start = 0; stop = 1 } ∷ [] }
    ∷ record { start = 1; stop = 2; marks = [] } ∷ []

-- `<\1>`, with what an unset group adds
abbrev pub in_brackets : List ℕ → Replacement
in_brackets unset = record {
  pieces = literal (codes "<") ∷ group 1 ∷ literal (codes ">") ∷ [];
  unset = unset;
}

pub without_default_row : replaced (codes "ab") a_then_b (in_brackets []) ≡ codes "<a><>"
without_default_row = refl

pub default_row : replaced (codes "ab") a_then_b (in_brackets (codes "?")) ≡ codes "<a><?>"
default_row = refl

-- no span: the subject
pub no_span_row : replaced (codes "ab") [] (in_brackets []) ≡ codes "ab"
no_span_row = refl

-- two spans reach the limit 2, and none reaches 0
pub limit_row : is_reached 2 2 ≡ true
limit_row = refl

pub no_limit_row : is_reached 0 2 ≡ false
no_limit_row = refl
