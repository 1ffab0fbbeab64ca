-- An iterator over a text.
use Rattle.std.specs.Prelude.{◌≡◌, ℕ, ◌+◌, ◌≤◌, ℤ, pos, unsigned_abs, nat_lt, if◌then◌else◌, Option, Some, None, List, [], length, drop, slice_get, chars, encode_utf8_all}
use Rattle.std.specs.Str.{IsCharBoundary}
use Rattle.py_text.specs.Subscript.{clamp}

-- a text, and a place in it
pub record Position : Type 0 where
  pub text : List ℕ
  pub place : ℕ

-- the code points from the place on; none where an iterator is exhausted
abbrev pub rest_of : Option Position → List ℕ
rest_of None = []
rest_of (Some s) = drop s.place s.text

-- what `next` gives
abbrev pub next_of : Option Position → Option ℕ
next_of None = None
next_of (Some s) = slice_get s.text s.place

-- where `next` leaves it: one place on, or exhausted at the end of the text
abbrev pub after_next : Option Position → Option Position
after_next None = None
after_next (Some s) =
    if nat_lt s.place (length s.text) then Some (record { text = s.text; place = s.place + 1 })
    else None

-- at a given place, clamped to the text; an exhausted one stays exhausted
abbrev pub moved_to : ℤ → Option Position → Option Position
moved_to z None = None
moved_to z (Some s) =
    Some (record { text = s.text; place = unsigned_abs (clamp (pos 0) (pos (length s.text)) z) })

-- the place is in the text, and its code point begins after so many bytes
pub record IsCursor (text : List ℕ) (place offset : ℕ) : Type 0 where
  pub inside : place ≤ length text
  pub boundary : IsCharBoundary (encode_utf8_all text) offset
  pub after : chars (drop offset (encode_utf8_all text)) ≡ drop place text
