-- Every so many items of a list.
use Rattle.std.specs.Prelude.{ℕ, zero, suc, ◌-◌, List, [], ◌∷◌}

-- passes over n items, takes the next, passes over step - 1 items, and so on
abbrev pub every_after : ℕ → ℕ → List ℕ → List ℕ
every_after step n [] = []
every_after step zero (x ∷ xs) = x ∷ every_after step (step - 1) xs
every_after step (suc n) (x ∷ xs) = every_after step n xs

-- the first item, and each that is a multiple of step after it
abbrev pub every : ℕ → List ℕ → List ℕ
every step L = every_after step 0 L
