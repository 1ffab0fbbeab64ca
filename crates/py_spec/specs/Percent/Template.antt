-- The parts of a percent template with their places, or its first fault.
use Rattle.std.specs.Prelude.{ℕ, zero, suc, ◌==◌, if◌then◌else◌, List, [], ◌∷◌, ◌++◌, length, Option, Some, None, Result, Ok, Err}
use Rattle.py_base.specs.Reading.{◌and_then◌}
use Rattle.py_base.specs.declared.error.PyError.{PyError}
use Rattle.py_spec.specs.declared.percent.parts.CFormatPart.{CFormatPart}
use Rattle.py_spec.specs.declared.percent.parts.CFormatPart.TheVariants.{Literal, Spec}
use Rattle.py_spec.specs.declared.percent.parts.CFormatSpec.{CFormatSpec}
use Rattle.py_spec.specs.Percent.Literals.{literal}
use Rattle.py_spec.specs.Percent.Reading.{Read, place_of, read_specifier}

-- a literal, and the specifier after it with its place, where there is one
abbrev pub Turn : Type 0
Turn = List ℕ × Option (ℕ × CFormatSpec)

abbrev pub specifier_after : ℕ → List ℕ → List ℕ → Read Turn
specifier_after n text [] = Ok ((text, None), [])
specifier_after n text (c ∷ cs) =
    read_specifier n cs and_then λ s rest. Ok ((text, Some (place_of n (c ∷ cs), s)), rest)

abbrev pub read_turn : ℕ → List ℕ → Read Turn
read_turn n cs = specifier_after n (literal cs).0 (literal cs).1

abbrev pub Parts : Type 0
Parts = List (ℕ × CFormatPart)

-- a literal is a part where it is not empty
abbrev pub literal_part : ℕ → List ℕ → Parts
literal_part place text = if length text == 0 then [] else (place, Literal text) ∷ []

abbrev pub spec_part : Option (ℕ × CFormatSpec) → Parts
spec_part None = []
spec_part (Some s) = (s.0, Spec s.1) ∷ []

abbrev pub turn_parts : ℕ → Turn → Parts
turn_parts place turn = literal_part place turn.0 ++ spec_part turn.1

-- the parts of a rest of a template of n units; the first number counts down, and is no limit where
-- it is past the length of the rest
abbrev pub read_parts : ℕ → ℕ → List ℕ → Read Parts
read_parts zero n cs = Ok ([], cs)
read_parts (suc k) n [] = Ok ([], [])
read_parts (suc k) n (c ∷ cs) =
    read_turn n (c ∷ cs) and_then λ turn rest.
    read_parts k n rest and_then λ parts end.
    Ok (turn_parts (place_of n (c ∷ cs)) turn ++ parts, end)

abbrev pub value_of : {A : Type 0} → Read A → Result A PyError
value_of (Ok r) = Ok r.0
value_of (Err e) = Err e

-- the parts of a template, or its first fault
abbrev pub percent_parts : List ℕ → Result Parts PyError
percent_parts cs = value_of (read_parts (suc (length cs)) (length cs) cs)
