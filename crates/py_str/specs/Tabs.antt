-- A text with spaces in the place of its tabs.
use Rattle.std.specs.Prelude.{ℕ, ◌+◌, ◌-◌, ◌%◌, Bool, not, ◌||◌, ◌==◌, if◌then◌else◌, List, [], ◌∷◌, ◌++◌}
use Rattle.py_str.specs.Pad.{run}

-- no tab, CR or LF
abbrev pub is_inside : ℕ → Bool
is_inside c = not (c == 9 || c == 10 || c == 13)

-- how many spaces a tab at a column gives: up to the next multiple of the size, none where it is 0
abbrev pub gap : ℕ → ℕ → ℕ
gap size column = if size == 0 then 0 else size - column % size

-- the column after a character that is no tab: CR and LF begin a line
abbrev pub column_after : ℕ → ℕ → ℕ
column_after column c = if c == 10 || c == 13 then 0 else column + 1

-- a text that begins at a column, with its tabs expanded
abbrev pub expanded_at : ℕ → ℕ → List ℕ → List ℕ
expanded_at size column [] = []
expanded_at size column (c ∷ cs) =
    if c == 9
    then run (gap size column) 32 ++ expanded_at size (column + gap size column) cs
    else c ∷ expanded_at size (column_after column c) cs

-- the same of a text that begins a line
abbrev pub expanded : ℕ → List ℕ → List ℕ
expanded size cs = expanded_at size 0 cs
