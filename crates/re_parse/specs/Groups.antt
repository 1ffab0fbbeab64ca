-- The groups that a pattern has begun, in memory.
use Rattle.std.specs.Prelude.{ℕ, List, [], ◌∷◌}
use Rattle.re_parse.specs.declared.groups.Conditional.{Conditional}

-- the conditionals by number: their places and numbers
abbrev pub conditionals_in : List Conditional → List (ℕ × ℕ)
conditionals_in [] = []
conditionals_in (x ∷ xs) = (x.at, x.number) ∷ conditionals_in xs
