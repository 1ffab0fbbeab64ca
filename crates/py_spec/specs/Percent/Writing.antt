-- How one value is written by a specifier of a percent template.
use Rattle.std.specs.Prelude.{ℕ, ◌-◌, ◌==◌, ◌&&◌, Bool, true, false, not, if◌then◌else◌, ℤ, List, [], ◌++◌, length, take, replicate, codes, Option, Some, None, unsigned_abs}
use Rattle.std.specs.Int.{is_negative}
use Rattle.std.specs.Int.RustNames.{bit_and}
use Rattle.std.specs.Fmt.{digits}
use Rattle.py_spec.specs.declared.percent.parts.CConversionFlags.{CConversionFlags}
use Rattle.py_spec.specs.declared.percent.parts.CFormatQuantity.{CFormatQuantity}
use Rattle.py_spec.specs.declared.percent.parts.CFormatQuantity.TheVariants.{Amount, FromValuesTuple}
use Rattle.py_spec.specs.declared.percent.parts.CFormatPrecision.{CFormatPrecision}
use Rattle.py_spec.specs.declared.percent.parts.CFormatPrecision.TheVariants.{Quantity, Dot}
use Rattle.py_spec.specs.declared.percent.parts.CFormatSpec.{CFormatSpec}
use Rattle.py_spec.specs.declared.percent.parts.CFormatType.{CFormatType}
use Rattle.py_spec.specs.declared.percent.parts.CFormatType.TheVariants.{Number, Character, String}
use Rattle.py_spec.specs.declared.percent.parts.CNumberType.{CNumberType}
use Rattle.py_spec.specs.declared.percent.parts.CNumberType.TheVariants.{Decimal, Octal, Hex, HexUpper}
use Rattle.py_spec.specs.Percent.Flags.{alternate_form, zero_pad, left_adjust, blank_sign, sign_char}

-- whether the flag of a bit is set
abbrev pub has : ℕ → CConversionFlags → Bool
has bit flags = bit_and flags.0 bit == bit

abbrev pub spaces : ℕ → List ℕ
spaces n = replicate n 32

abbrev pub zeros : ℕ → List ℕ
zeros n = replicate n 48

-- the width; it is 0 where there is none, or where a `*` has not been replaced
abbrev pub width_in : Option CFormatQuantity → ℕ
width_in None = 0
width_in (Some (Amount n)) = n
width_in (Some FromValuesTuple) = 0

-- the precision; nothing after a `.` is 0, and a `*` that has not been replaced is none
abbrev pub precision_in : Option CFormatPrecision → Option ℕ
precision_in None = None
precision_in (Some Dot) = Some 0
precision_in (Some (Quantity (Amount n))) = Some n
precision_in (Some (Quantity FromValuesTuple)) = None

-- how many units so many are short of the width
abbrev pub short_of : CFormatSpec → ℕ → ℕ
short_of s n = width_in s.min_field_width - n

-- so many spaces, as those on the left and those on the right: all on the left, or with `-` on the
-- right
abbrev pub sides : CConversionFlags → ℕ → ℕ × ℕ
sides flags n = if has left_adjust flags then (0, n) else (n, 0)

abbrev pub between : ℕ × ℕ → List ℕ → List ℕ
between side units = spaces side.0 ++ (units ++ spaces side.1)

-- units with spaces up to the width
abbrev pub filled : CFormatSpec → List ℕ → List ℕ
filled s units = between (sides s.flags (short_of s (length units))) units

-- what a string is cut to: the precision, which `c` ignores
abbrev pub most_units : CFormatType → Option CFormatPrecision → Option ℕ
most_units (Number kind) precision = precision_in precision
most_units Character precision = None
most_units (String conversion) precision = precision_in precision

abbrev pub cut : Option ℕ → List ℕ → List ℕ
cut None units = units
cut (Some n) units = take n units

-- a string, cut to the precision and filled with spaces
abbrev pub string_units : CFormatSpec → List ℕ → List ℕ
string_units s units = filled s (cut (most_units s.format_type s.precision) units)

-- the sign of a number: `-`, and else `+` or a space where its flag is set, the `+` first
abbrev pub sign_text : CConversionFlags → Bool → List ℕ
sign_text flags negative =
    if negative then codes "-"
    else if has sign_char flags then codes "+"
    else if has blank_sign flags then codes " "
    else []

abbrev pub prefix_of : CNumberType → List ℕ
prefix_of Decimal = []
prefix_of Octal = codes "0o"
prefix_of Hex = codes "0x"
prefix_of HexUpper = codes "0X"

-- the prefix, with `#`
abbrev pub prefix_text : CConversionFlags → CNumberType → List ℕ
prefix_text flags kind = if has alternate_form flags then prefix_of kind else []

abbrev pub digits_of : CNumberType → ℕ → List ℕ
digits_of Decimal n = digits 10 false n
digits_of Octal n = digits 8 false n
digits_of Hex n = digits 16 false n
digits_of HexUpper n = digits 16 true n

-- the least number of digits
abbrev pub least_digits : Option ℕ → ℕ
least_digits None = 0
least_digits (Some n) = n

-- digits after so many zeros that they are at least n
abbrev pub at_least : ℕ → List ℕ → List ℕ
at_least n ds = zeros (n - length ds) ++ ds

-- how many of the units that a number is short of the width are zeros: all with `0` and without `-`
abbrev pub zero_fill : CConversionFlags → ℕ → ℕ
zero_fill flags n = if has zero_pad flags && not (has left_adjust flags) then n else 0

-- digits after their sign and prefix, with the zeros of the width between
abbrev pub zero_filled : CFormatSpec → List ℕ → List ℕ → List ℕ
zero_filled s head ds = head ++ (zeros (zero_fill s.flags (short_of s (length (head ++ ds)))) ++ ds)

-- a number after its sign and prefix: at least as many digits as the precision, then zeros and then
-- spaces up to the width
abbrev pub number_after : CFormatSpec → List ℕ → List ℕ → List ℕ
number_after s head ds =
    filled s (zero_filled s head (at_least (least_digits (precision_in s.precision)) ds))

-- the base of a number is that of its type, and else ten
abbrev pub kind_of : CFormatType → CNumberType
kind_of (Number kind) = kind
kind_of Character = Decimal
kind_of (String conversion) = Decimal

-- a number as it is written
abbrev pub number_text : CFormatSpec → ℤ → List ℕ
number_text s z =
    let kind = kind_of s.format_type in
    let head = sign_text s.flags (is_negative z) ++ prefix_text s.flags kind in
    number_after s head (digits_of kind (unsigned_abs z))
