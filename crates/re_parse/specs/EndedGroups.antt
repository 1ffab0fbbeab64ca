-- Which groups have ended, by number.
use Rattle.std.specs.Prelude.{◌≡◌, ℕ, ◌==◌, ◌||◌, Bool, false, List, get_or}
use Rattle.re_tree.specs.Faults.{has_number}

-- each number is one of a list exactly where it is true here
abbrev pub AreNumbers : List Bool → List ℕ → Type 0
AreNumbers ended order = (n : ℕ) → get_or ended n false ≡ has_number n order

-- the same for each number
abbrev pub SayTheSame : List Bool → List Bool → Type 0
SayTheSame ended longer = (n : ℕ) → get_or longer n false ≡ get_or ended n false

-- the same, and true for this number
abbrev pub SayAlso : ℕ → List Bool → List Bool → Type 0
SayAlso number ended longer = (n : ℕ)
    → get_or longer n false ≡ (get_or ended n false || number == n)
