-- Which side of a window an affix is looked for at.
use Rattle.std.specs.Prelude.{ℕ, Bool, List, length, Result}
use Rattle.py_base.specs.declared.error.PyError.{PyError}
use Rattle.py_text.specs.Search.{begins_with, ends_with}
use Rattle.py_value.specs.declared.affix.Side.{Side}
use Rattle.py_value.specs.declared.affix.Side.TheVariants.{Start, End}
use Rattle.py_value.specs.declared.affix.Place.{Place}
use Rattle.py_value.specs.Affix.{in_window, affix_passes}
use Rattle.py_value.specs.Plain.{Plain}

abbrev pub side_fits : Side → Place → List ℕ → List ℕ → Bool
side_fits Start place L x = begins_with x L place.start place.end
side_fits End place L x = ends_with x L place.start place.end

-- x is at the side of the window of L
abbrev pub fits : Place → List ℕ → List ℕ → Bool
fits place L x = side_fits place.side place L x

abbrev pub answer : Place → List ℕ → Plain → Result Bool PyError
answer place L v = in_window (length L) place.start place.end (affix_passes (fits place L) v)
