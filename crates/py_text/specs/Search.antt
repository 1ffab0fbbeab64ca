-- Searches for a text in a window of a text. A place counts code points from the text's beginning.
use Rattle.std.specs.Prelude.{ℕ, suc, ◌-◌, Bool, List, length, ℤ, pos, negsuc, Option, Some, None}
use Rattle.py_text.specs.Occurrences.{occurs_at, first_in, last_in, occurrences}
use Rattle.py_text.specs.Window.{window_start, window_end}

-- the first place of x in the window of L, of which there is none where the window begins past its
-- end
abbrev pub find : List ℕ → List ℕ → Option ℤ → Option ℤ → Option ℕ
find x L start end = first_in x L (window_start (length L) start) (window_end (length L) end)

-- the last place of x in the window of L
abbrev pub rfind : List ℕ → List ℕ → Option ℤ → Option ℤ → Option ℕ
rfind x L start end = last_in x L (window_start (length L) start) (window_end (length L) end)

-- a place as a number, -1 for none
abbrev pub place_or_minus_one : Option ℕ → ℤ
place_or_minus_one None = negsuc 0
place_or_minus_one (Some a) = pos a

-- how many places of x there are in the window of L
abbrev pub count : List ℕ → List ℕ → Option ℤ → Option ℤ → ℕ
count x L start end =
    let s = window_start (length L) start in
    let e = window_end (length L) end in
    length (occurrences (suc (length L)) x L s e)

-- the window of L begins with x
abbrev pub begins_with : List ℕ → List ℕ → Option ℤ → Option ℤ → Bool
begins_with x L start end =
    let b = window_start (length L) start in occurs_at x L b (window_end (length L) end) b

-- the window of L ends with x
abbrev pub ends_with : List ℕ → List ℕ → Option ℤ → Option ℤ → Bool
ends_with x L start end =
    let e = window_end (length L) end in
    occurs_at x L (window_start (length L) start) e (e - length x)
