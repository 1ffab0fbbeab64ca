-- How a specifier of a percent template is read, part by part.
use Rattle.std.specs.Prelude.{◌≡◌, ℕ, ◌+◌, ◌-◌, ◌*◌, ◌<◌, ◌≤◌, ◌&&◌, ◌||◌, ◌==◌, nat_lt, nat_le, Bool, true, false, if◌then◌else◌, List, [], ◌∷◌, length, drop, Option, Some, None, MatchOption, Result, Ok, Err}
use Rattle.py_base.specs.Reading.{Read as ReadOr, ◌and_then◌, is_next, find, MeetsUnless}
use Rattle.py_base.specs.declared.error.causes.CarryKind.TheVariants.{Code}
use Rattle.py_base.specs.declared.error.PyError.{PyError}
use Rattle.py_base.specs.declared.error.PyError.TheVariants.{NoMemory, PercentParse, NotCarried}
use Rattle.py_base.specs.declared.error.percent.PercentFault.TheVariants.{IncompleteKey, IncompleteFormat, WidthTooBig, UnsupportedChar}
use Rattle.py_spec.specs.declared.percent.parts.CFormatKey.{CFormatKey}
use Rattle.py_spec.specs.declared.percent.parts.CFormatKey.TheVariants.{Text}
use Rattle.py_spec.specs.declared.percent.parts.CFormatSpec.{CFormatSpec}
use Rattle.py_spec.specs.declared.percent.parts.CFormatQuantity.{CFormatQuantity}
use Rattle.py_spec.specs.declared.percent.parts.CFormatQuantity.TheVariants.{Amount, FromValuesTuple}
use Rattle.py_spec.specs.declared.percent.parts.CFormatPrecision.{CFormatPrecision}
use Rattle.py_spec.specs.declared.percent.parts.CFormatPrecision.TheVariants.{Quantity, Dot}
use Rattle.py_spec.specs.declared.percent.parts.CFormatType.{CFormatType}
use Rattle.py_spec.specs.declared.percent.parts.CFormatType.TheVariants.{Number, Character, String}
use Rattle.py_spec.specs.declared.percent.parts.CNumberType.TheVariants.{Decimal, Octal, Hex, HexUpper}
use Rattle.py_spec.specs.declared.percent.parts.CFormatConversion.TheVariants.{Str, Repr, Ascii, Bytes}
use Rattle.py_spec.specs.declared.percent.parts.CConversionFlags.{CConversionFlags}
use Rattle.py_spec.specs.Percent.Flags.{flag, read_flags}

abbrev pub no_memory : PyError → Bool
no_memory NoMemory = true
no_memory _ = false

abbrev pub Meets : {A : Type 0} → Result A PyError → Result A PyError → Type 0
Meets want result = MeetsUnless no_memory want result

abbrev pub Read : Type 0 → Type 0
Read A = ReadOr PyError A

-- what a call read, and what it left
abbrev pub with_rest : {A : Type 0} → Result A PyError → List ℕ → Read A
with_rest (Ok a) rest = Ok (a, rest)
with_rest (Err e) rest = Err e

-- the place in a template of n units where the rest begins
abbrev pub place_of : ℕ → List ℕ → ℕ
place_of n rest = n - length rest

-- how many parentheses are open after a unit of a key; none where it is the `)` that closes the key
abbrev pub open_after : ℕ → ℕ → Option ℕ
open_after d c =
    if c == 41 then (if d == 0 then None else Some (d - 1))
    else if c == 40 then Some (d + 1)
    else Some d

abbrev pub more_key : ℕ → Read (List ℕ) → Read (List ℕ)
more_key c r = r and_then λ key rest. Ok (c ∷ key, rest)

abbrev pub key_on : Option ℕ → ℕ → List ℕ → (ℕ → Read (List ℕ)) → Read (List ℕ)
key_on None c cs next = Ok ([], cs)
key_on (Some d) c cs next = more_key c (next d)

-- a key, in which so many parentheses are open; the place is that of its own
abbrev pub key_in : ℕ → ℕ → List ℕ → Read (List ℕ)
key_in place d [] = Err (PercentParse IncompleteKey place)
key_in place d (c ∷ cs) = key_on (open_after d c) c cs (λ e. key_in place e cs)

abbrev pub key_text : ℕ → List ℕ → Read (List ℕ)
key_text place cs = key_in place 0 cs

-- a key is in parentheses, which are 40 and 41
abbrev pub read_key : ℕ → List ℕ → Read (Option CFormatKey)
read_key n cs =
    if is_next 40 cs
    then (key_text (place_of n cs) (drop 1 cs) and_then λ key rest. Ok (Some (Text key), rest))
    else Ok (None, cs)

abbrev pub is_digit : ℕ → Bool
is_digit c = nat_le 48 c && nat_le c 57

-- the number that the next digits spell, after those of a number
abbrev pub read_digits : ℕ → List ℕ → ℕ × List ℕ
read_digits n [] = (n, [])
read_digits n (c ∷ cs) = if is_digit c then read_digits (n * 10 + (c - 48)) cs else (n, c ∷ cs)

-- the greatest width or precision
abbrev pub most : ℕ
most = 2147483647

abbrev pub amount_in : ℕ → ℕ × List ℕ → Read (Option CFormatQuantity)
amount_in place d =
    if nat_lt most d.0 then Err (PercentParse WidthTooBig place)
    else Ok (Some (Amount d.0), d.1)

abbrev pub read_amount : ℕ → List ℕ → Read (Option CFormatQuantity)
read_amount n cs = amount_in (place_of n cs) (read_digits 0 cs)

-- digits, `*`, which takes the number from the values, or nothing
abbrev pub read_quantity : ℕ → List ℕ → Read (Option CFormatQuantity)
read_quantity n [] = Ok (None, [])
read_quantity n (c ∷ cs) =
    if c == 42 then Ok (Some FromValuesTuple, cs)
    else if is_digit c then read_amount n (c ∷ cs)
    else Ok (None, c ∷ cs)

abbrev pub precision_of : Option CFormatQuantity → CFormatPrecision
precision_of None = Dot
precision_of (Some q) = Quantity q

-- a precision is after a `.`
abbrev pub read_precision : ℕ → List ℕ → Read (Option CFormatPrecision)
read_precision n cs =
    if is_next 46 cs
    then (read_quantity n (drop 1 cs) and_then λ q rest. Ok (Some (precision_of q), rest))
    else Ok (None, cs)

-- `h`, `l` or `L` changes nothing
abbrev pub skip_length : List ℕ → List ℕ
skip_length cs = if is_next 104 cs || is_next 108 cs || is_next 76 cs then drop 1 cs else cs

-- the types `d i u o x X c s r a b`
abbrev pub types : List (ℕ × CFormatType)
types =
    (100, Number Decimal) ∷ (105, Number Decimal) ∷ (117, Number Decimal)
    ∷ (111, Number Octal) ∷ (120, Number Hex) ∷ (88, Number HexUpper)
    ∷ (99, Character)
    ∷ (115, String Str) ∷ (114, String Repr) ∷ (97, String Ascii) ∷ (98, String Bytes) ∷ []

-- the types of floats, `e E f F g G`
abbrev pub is_float : ℕ → Bool
is_float c = c == 101 || c == 69 || c == 102 || c == 70 || c == 103 || c == 71

abbrev pub no_type : ℕ → ℕ → PyError
no_type c place = if is_float c then NotCarried (Code c) else PercentParse (UnsupportedChar c) place

abbrev pub typed : Option CFormatType → ℕ → ℕ → List ℕ → Read (CFormatType × ℕ)
typed None place c cs = Err (no_type c place)
typed (Some t) place c cs = Ok ((t, c), cs)

abbrev pub read_type : ℕ → List ℕ → Read (CFormatType × ℕ)
read_type n [] = Err (PercentParse IncompleteFormat n)
read_type n (c ∷ cs) = typed (find types c) (place_of n (c ∷ cs)) c cs

abbrev pub typed_spec : Option CFormatKey → CConversionFlags → Option CFormatQuantity
    → Option CFormatPrecision → CFormatType × ℕ → CFormatSpec
typed_spec key flags width precision type = record {
  mapping_key = key;
  flags = flags;
  min_field_width = width;
  precision = precision;
  format_type = type.0;
  format_char = type.1;
}

-- a specifier after its `%`: a key, flags, a width, a precision, a letter of length and a type
abbrev pub read_specifier : ℕ → List ℕ → Read CFormatSpec
read_specifier n cs =
    read_key n cs and_then λ key cs.
    let flags = read_flags (flag 0) cs in
    read_quantity n flags.1 and_then λ width cs.
    read_precision n cs and_then λ precision cs.
    read_type n (skip_length cs) and_then λ type cs.
    Ok (typed_spec key flags.0 width precision type, cs)

-- a number that the next digits spell, or none where it is past the greatest
abbrev pub DigitsGive : List ℕ → Option ℕ → List ℕ → Type 0
DigitsGive cs result rest =
    MatchOption result (most < (read_digits 0 cs).0)
    (λ n. (read_digits 0 cs ≡ (n, rest)) × (n ≤ most))
