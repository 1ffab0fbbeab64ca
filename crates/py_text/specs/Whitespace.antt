-- A text split at runs of ASCII whitespace.
use Rattle.std.specs.Prelude.{ℕ, zero, suc, not, List, [], ◌∷◌, reverse, take_while}
use Rattle.py_base.specs.Chars.Whitespace.{is_ascii_whitespace, skip_while}
use Rattle.py_text.specs.Mirror.{mirrored}

-- L up to its first whitespace
abbrev pub until_whitespace : List ℕ → List ℕ
until_whitespace L = take_while (λ c. not (is_ascii_whitespace c)) L

-- L from its first whitespace on
abbrev pub from_whitespace : List ℕ → List ℕ
from_whitespace L = skip_while (λ c. not (is_ascii_whitespace c)) L

-- the first k pieces between whitespace, and what is after them as one last piece, which does not
-- begin with whitespace
abbrev pub split_whitespace : ℕ → List ℕ → List (List ℕ)
split_whitespace zero L =
    elim (skip_while is_ascii_whitespace L) [ [] ↦ [] | c ∷ cs ↦ (c ∷ cs) ∷ [] ]
split_whitespace (suc k) L = elim (skip_while is_ascii_whitespace L) [
  | [] ↦ []
  | c ∷ cs ↦ until_whitespace (c ∷ cs) ∷ split_whitespace k (from_whitespace (c ∷ cs))
]

-- the last k pieces between whitespace, and what is before them as one first piece
abbrev pub rsplit_whitespace : ℕ → List ℕ → List (List ℕ)
rsplit_whitespace k L = mirrored (split_whitespace k (reverse L))
