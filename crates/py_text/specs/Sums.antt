-- A list repeated.
use Rattle.std.specs.Prelude.{ℕ, zero, suc, ℤ, pos, negsuc, List, [], ◌++◌}

-- L, n times
abbrev pub copies : ℕ → List ℕ → List ℕ
copies zero L = []
copies (suc n) L = L ++ copies n L

-- L times a number: a negative one gives nothing
abbrev pub times : ℤ → List ℕ → List ℕ
times (pos n) L = copies n L
times (negsuc n) L = []
