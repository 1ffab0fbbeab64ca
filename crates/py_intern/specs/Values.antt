-- A pool's texts as values.
use Rattle.std.specs.Prelude.{ℕ, List, slice_get, Option, None}
use Rattle.std.specs.Option.{option_map}
use Rattle.py_value.specs.Plain.{Plain, str}
use Rattle.py_intern.specs.Pool.{place_of}

-- the text at a place, as a value
abbrev pub value_at : ℕ → List (List ℕ) → Option Plain
value_at place pool = option_map str (slice_get pool place)

-- the place of a value that is a text; no other value has one
abbrev pub place_of_value : Plain → List (List ℕ) → Option ℕ
place_of_value (str text) pool = place_of text pool
place_of_value _ pool = None
