-- A text split at the places of a separator, or at whitespace.
use Rattle.std.specs.Prelude.{ℕ, ◌+◌, List, [], ◌∷◌, length, drop, reverse, slice_range, ℤ, pos, negsuc, Option, Some, None}
use Rattle.py_text.specs.Mirror.{mirrored}
use Rattle.py_text.specs.Occurrences.{occurrences}
use Rattle.py_text.specs.Whitespace.{split_whitespace, rsplit_whitespace}

-- how many places are taken of n code points at most; a negative number sets no limit
abbrev pub limit : ℕ → ℤ → ℕ
limit n (pos k) = k
limit n (negsuc _) = n + 1

-- the pieces of L from p on between separators that are n long and at these places
abbrev pub pieces : List ℕ → ℕ → ℕ → List ℕ → List (List ℕ)
pieces L n p [] = drop p L ∷ []
pieces L n p (a ∷ more) = slice_range L p a ∷ pieces L n (a + n) more

-- L split at the first k places of x
abbrev pub split : ℕ → List ℕ → List ℕ → List (List ℕ)
split k x L = pieces L (length x) 0 (occurrences k x L 0 (length L))

-- L split at the last k places of x, found from the right
abbrev pub rsplit : ℕ → List ℕ → List ℕ → List (List ℕ)
rsplit k x L = mirrored (split k (reverse x) (reverse L))

-- L split at a separator, or at whitespace where there is none, at most m times from the left; a
-- negative m sets no limit
abbrev pub split_by : Option (List ℕ) → ℤ → List ℕ → List (List ℕ)
split_by None m L = split_whitespace (limit (length L) m) L
split_by (Some x) m L = split (limit (length L) m) x L

-- the same from the right
abbrev pub rsplit_by : Option (List ℕ) → ℤ → List ℕ → List (List ℕ)
rsplit_by None m L = rsplit_whitespace (limit (length L) m) L
rsplit_by (Some x) m L = rsplit (limit (length L) m) x L
