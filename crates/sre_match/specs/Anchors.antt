-- Anchors: which places of a subject they pass at.
use Rattle.std.specs.Prelude.{ℕ, zero, suc, ◌+◌, ◌==◌, ◌||◌, ◌&&◌, not, Bool, true, false, if◌then◌else◌, List, length, slice_get, Option, Some, None}
use Rattle.py_base.specs.Chars.Categories.{is_ascii_word, is_word}
use Rattle.py_base.specs.declared.chars.categories.TheConstants.{LINE_FEED}
use Rattle.sre_code.specs.declared.opcodes.TheConstants.{AT_BEGINNING, AT_BEGINNING_LINE, AT_BEGINNING_STRING, AT_BOUNDARY, AT_NON_BOUNDARY, AT_END, AT_END_LINE, AT_END_STRING, AT_UNI_BOUNDARY, AT_UNI_NON_BOUNDARY}

-- there is a unit and it meets the test
abbrev pub is_met : (ℕ → Bool) → Option ℕ → Bool
is_met test None = false
is_met test (Some u) = test u

-- the unit at a place meets the test
abbrev pub met_at : (ℕ → Bool) → List ℕ → ℕ → Bool
met_at test s p = is_met test (slice_get s p)

-- the unit before a place does
abbrev pub met_before : (ℕ → Bool) → List ℕ → ℕ → Bool
met_before test s zero = false
met_before test s (suc p) = met_at test s p

abbrev pub is_newline : ℕ → Bool
is_newline c = c == LINE_FEED

abbrev pub is_start : List ℕ → ℕ → Bool
is_start s p = p == 0

abbrev pub is_end : List ℕ → ℕ → Bool
is_end s p = p == length s

abbrev pub exactly_one : Bool → Bool → Bool
exactly_one true b = not b
exactly_one false b = b

-- exactly one side is a unit that meets the test
abbrev pub is_boundary : (ℕ → Bool) → List ℕ → ℕ → Bool
is_boundary test s p = exactly_one (met_before test s p) (met_at test s p)

-- the end, or before a last line feed
abbrev pub is_last_end : List ℕ → ℕ → Bool
is_last_end s p = is_end s p || (p + 1 == length s && met_at is_newline s p)

-- whether anchor k passes at place p of a subject
abbrev pub is_at_anchor : ℕ → List ℕ → ℕ → Bool
is_at_anchor k s p =
    if k == AT_BEGINNING then is_start s p
    else if k == AT_BEGINNING_LINE then is_start s p || met_before is_newline s p
    else if k == AT_BEGINNING_STRING then is_start s p
    else if k == AT_BOUNDARY then is_boundary is_ascii_word s p
    else if k == AT_NON_BOUNDARY then not (is_boundary is_ascii_word s p)
    else if k == AT_END then is_last_end s p
    else if k == AT_END_LINE then is_end s p || met_at is_newline s p
    else if k == AT_END_STRING then is_end s p
    else if k == AT_UNI_BOUNDARY then is_boundary is_word s p
    else if k == AT_UNI_NON_BOUNDARY then not (is_boundary is_word s p)
    else false
