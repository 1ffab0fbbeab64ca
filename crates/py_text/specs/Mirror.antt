-- A list of texts read from right to left.
use Rattle.std.specs.Prelude.{ℕ, List, map, reverse}

-- each text backwards, the last one first
abbrev pub mirrored : List (List ℕ) → List (List ℕ)
mirrored ps = reverse (map reverse ps)
