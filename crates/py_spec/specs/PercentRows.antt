-- Templates, and what they are made of.
use Rattle.std.specs.Prelude.{◌≡◌, codes, Ok, Err, Some, None, [], ◌∷◌}
use Rattle.std.proofs.Common.{refl}
use Rattle.py_base.specs.declared.error.causes.CarryKind.TheVariants.{Code}
use Rattle.py_base.specs.declared.error.PyError.TheVariants.{PercentParse, NotCarried}
use Rattle.py_base.specs.declared.error.percent.PercentFault.TheVariants.{IncompleteKey, IncompleteFormat, WidthTooBig, UnsupportedChar}
use Rattle.py_spec.specs.declared.percent.parts.CFormatKey.TheVariants.{Text}
use Rattle.py_spec.specs.declared.percent.parts.CFormatPart.TheVariants.{Literal, Spec}
use Rattle.py_spec.specs.declared.percent.parts.CFormatQuantity.TheVariants.{Amount, FromValuesTuple}
use Rattle.py_spec.specs.declared.percent.parts.CFormatPrecision.TheVariants.{Dot}
use Rattle.py_spec.specs.declared.percent.parts.CFormatType.TheVariants.{Number, String}
use Rattle.py_spec.specs.declared.percent.parts.CNumberType.TheVariants.{Decimal, Hex}
use Rattle.py_spec.specs.declared.percent.parts.CFormatConversion.TheVariants.{Str}
use Rattle.py_spec.specs.Percent.Flags.{flag}
use Rattle.py_spec.specs.Percent.Reading.{typed_spec}
use Rattle.py_spec.specs.Percent.Spelling.{doubled}
use Rattle.py_spec.specs.Percent.Template.{percent_parts}

-- `a%%%5d` is the literal `a%` and a specifier at the place 3
two_parts : percent_parts (codes "a%%%5d")
    ≡ Ok ((0, Literal (codes "a%"))
    ∷ (3, Spec (typed_spec None (flag 0) (Some (Amount 5)) None (Number Decimal, 100))) ∷ [])
two_parts = refl

-- the key of `%(a(b))d` is `a(b)`
nested_key : percent_parts (codes "%(a(b))d") ≡ Ok
    ((0, Spec (typed_spec (Some (Text (codes "a(b)"))) (flag 0) None None (Number Decimal, 100)))
    ∷ [])
nested_key = refl

-- `%#08lx` has the flags `#` and `0`, which are 1 and 2, and the width 8
flags_and_width : percent_parts (codes "%#08lx")
    ≡ Ok ((0, Spec (typed_spec None (flag 3) (Some (Amount 8)) None (Number Hex, 120))) ∷ [])
flags_and_width = refl

-- `%*.s` takes its width from the values, and its precision is nothing
star_and_dot : percent_parts (codes "%*.s")
    ≡ Ok ((0, Spec (typed_spec None (flag 0) (Some FromValuesTuple) (Some Dot) (String Str, 115)))
    ∷ [])
star_and_dot = refl

-- `%5` ends inside a specifier
cut_short : percent_parts (codes "%5") ≡ Err (PercentParse IncompleteFormat 2)
cut_short = refl

-- the key of `ab%(c` is not closed
key_not_closed : percent_parts (codes "ab%(c") ≡ Err (PercentParse IncompleteKey 3)
key_not_closed = refl

-- `y` is no type
no_such_type : percent_parts (codes "%d%y") ≡ Err (PercentParse (UnsupportedChar 121) 3)
no_such_type = refl

-- a width past 2147483647 is a fault at its first digit
too_wide : percent_parts (codes "%-2147483648d") ≡ Err (PercentParse WidthTooBig 2)
too_wide = refl

-- `f` is the type of a float
float_type : percent_parts (codes "%.2f") ≡ Err (NotCarried (Code 102))
float_type = refl

-- the literal `a%` is spelled `a%%`
percent_twice : doubled (codes "a%") ≡ codes "a%%"
percent_twice = refl
