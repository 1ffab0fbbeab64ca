-- Names of groups.
use Rattle.std.specs.Prelude.{ℕ, if◌then◌else◌, List, [], ◌∷◌, ◌==◌, slice_get, Option, Some, None}
use Rattle.std.specs.Cmp.Lexicographic.{pointwise}

-- a name and the number of its group
abbrev pub Entry : Type 0
Entry = List ℕ × ℕ

-- the list with the number of a name changed, or with a new name last
abbrev pub put : List ℕ → ℕ → List Entry → List Entry
put name group [] = (name, group) ∷ []
put name group (e ∷ es) =
    if pointwise ◌==◌ name e.0 then (e.0, group) ∷ es else e ∷ put name group es

-- a name that may be left out, where there is one at all
abbrev pub flattened : Option (Option (List ℕ)) → Option (List ℕ)
flattened None = None
flattened (Some name) = name

-- the name at a place, where there is one
abbrev pub name_at : ℕ → List (Option (List ℕ)) → Option (List ℕ)
name_at i names = flattened (slice_get names i)
