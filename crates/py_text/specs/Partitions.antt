-- A text in three parts: what is before a separator, the separator, and what is after it.
use Rattle.std.specs.Prelude.{ℕ, ◌+◌, List, [], length, take, drop, Some, None}
use Rattle.py_text.specs.Occurrences.{first_in, last_in}

-- L before x at a place, x, and L after it
abbrev pub parted_at : List ℕ → List ℕ → ℕ → List ℕ × List ℕ × List ℕ
parted_at x L a = (take a L, x, drop (a + length x) L)

-- L parted at the first x; where there is none, L and two empty texts
abbrev pub partition : List ℕ → List ℕ → List ℕ × List ℕ × List ℕ
partition x L = elim (first_in x L 0 (length L)) [ None ↦ (L, [], []) | Some a ↦ parted_at x L a ]

-- L parted at the last x; where there is none, two empty texts and L
abbrev pub rpartition : List ℕ → List ℕ → List ℕ × List ℕ × List ℕ
rpartition x L = elim (last_in x L 0 (length L)) [ None ↦ ([], [], L) | Some a ↦ parted_at x L a ]
