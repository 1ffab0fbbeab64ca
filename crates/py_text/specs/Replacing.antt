-- Texts joined, and a text with another in the place of its parts.
use Rattle.std.specs.Prelude.{ℕ, ◌+◌, List, [], ◌∷◌, ◌++◌, ℤ, Option, Some, None}
use Rattle.py_text.specs.Pieces.{limit, split}

-- how many places are taken of n code points at most; with no number or a negative one all
abbrev pub limit_or_all : ℕ → Option ℤ → ℕ
limit_or_all n None = n + 1
limit_or_all n (Some k) = limit n k

-- the texts with x between
abbrev pub join : List ℕ → List (List ℕ) → List ℕ
join x [] = []
join x (p ∷ []) = p
join x (p ∷ q ∷ ps) = p ++ (x ++ join x (q ∷ ps))

-- L with y in the place of x at its first k places
abbrev pub replace : ℕ → List ℕ → List ℕ → List ℕ → List ℕ
replace k x y L = join y (split k x L)
