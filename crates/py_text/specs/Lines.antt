-- The lines of a text.
use Rattle.std.specs.Prelude.{ℕ, Bool, false, not, ◌&&◌, ◌==◌, if◌then◌else◌, List, [], ◌∷◌, map, take_while}
use Rattle.py_base.specs.Chars.Classes.{is_line_end}

-- the list begins with LF
abbrev pub starts_with_lf : List ℕ → Bool
starts_with_lf [] = false
starts_with_lf (c ∷ cs) = c == 0x0A

-- c before cs is the last of its line: a line end, but for CR before LF
abbrev pub closes_line : ℕ → List ℕ → Bool
closes_line c cs = is_line_end c && not (c == 0x0D && starts_with_lf cs)

-- how many code points the line end takes that L begins with: two for CR LF
abbrev pub end_width : List ℕ → ℕ
end_width [] = 0
end_width (c ∷ cs) = if c == 0x0D && starts_with_lf cs then 2 else 1

-- the lines with c before the first
abbrev pub onto_first_line : ℕ → List (List ℕ) → List (List ℕ)
onto_first_line c [] = (c ∷ []) ∷ []
onto_first_line c (l ∷ ls) = (c ∷ l) ∷ ls

-- the lines of L, each with its end
abbrev pub whole_lines : List ℕ → List (List ℕ)
whole_lines [] = []
whole_lines (c ∷ cs) =
    if closes_line c cs then (c ∷ []) ∷ whole_lines cs else onto_first_line c (whole_lines cs)

-- a line up to its end
abbrev pub without_end : List ℕ → List ℕ
without_end l = take_while (λ c. not (is_line_end c)) l

-- the lines of L, with their ends or without
abbrev pub split_lines : Bool → List ℕ → List (List ℕ)
split_lines keep L = if keep then whole_lines L else map without_end (whole_lines L)
