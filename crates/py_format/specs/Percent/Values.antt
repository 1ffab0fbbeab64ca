-- How a specifier writes one value.
use Rattle.std.specs.Prelude.{ℕ, ◌+◌, nat_lt, Bool, true, false, if◌then◌else◌, List, [], ◌∷◌, ◌++◌, ℤ, pos, negsuc, Option, Some, None, Result, Ok, Err, ok_or, encode_utf8_all}
use Rattle.py_base.specs.declared.error.percent.PercentCause.TheVariants.{NumberRequired, IntegerRequired, CharRequired, BytesRequired}
use Rattle.py_base.specs.declared.error.percent.PercentFault.TheVariants.{UnsupportedChar}
use Rattle.py_base.specs.declared.error.PyError.{PyError}
use Rattle.py_base.specs.declared.error.PyError.TheVariants.{Downcast, PercentParse, PercentArgs, CharRange}
use Rattle.py_base.specs.declared.error.type_names.ClassName.TheVariants.{Bytes as BytesClass}
use Rattle.py_int.specs.Boolean.{int_of_bool}
use Rattle.py_spec.specs.declared.percent.parts.CFormatConversion.{CFormatConversion}
use Rattle.py_spec.specs.declared.percent.parts.CFormatConversion.TheVariants.{Str, Repr, Ascii, Bytes}
use Rattle.py_spec.specs.declared.percent.parts.CFormatSpec.{CFormatSpec}
use Rattle.py_spec.specs.declared.percent.parts.CFormatType.{CFormatType}
use Rattle.py_spec.specs.declared.percent.parts.CFormatType.TheVariants.{Number, Character, String}
use Rattle.py_spec.specs.declared.percent.parts.CNumberType.{CNumberType}
use Rattle.py_spec.specs.declared.percent.parts.CNumberType.TheVariants.{Decimal, Octal, Hex, HexUpper}
use Rattle.py_spec.specs.Percent.Writing.{filled, number_text, string_units}
use Rattle.py_value.specs.declared.host.HostMethod.TheVariants.{ToInt, ToBytes}
use Rattle.py_value.specs.Asking.{Asking, gives, asks, ◌and_then◌}
use Rattle.py_value.specs.Classes.{class_of, integer_of}
use Rattle.py_value.specs.Plain.{Plain, none, bool, int, str, bytes, handle}
use Rattle.py_value.specs.Printing.{str_of, repr_of, ascii_of}
use Rattle.py_value.specs.Translate.{char_of}
use Rattle.py_format.specs.declared.percent.kind.Kind.{Kind}
use Rattle.py_format.specs.declared.percent.kind.Kind.TheVariants.{Text, Binary}

-- one result, where it is a value made another
abbrev pub map_ok : {A B : Type 0} → (A → B) → Result A PyError → Result B PyError
map_ok f (Ok a) = Ok (f a)
map_ok f (Err e) = Err e

-- whether a template is of bytes
abbrev pub is_binary : Kind → Bool
is_binary Text = false
is_binary Binary = true

-- a text in a template: its code points, or in one of bytes its bytes
abbrev pub in_units : Kind → List ℕ → List ℕ
in_units Text cs = cs
in_units Binary cs = encode_utf8_all cs

-- numbers

-- the errors for a value that is no number
abbrev pub no_number : CFormatSpec → Plain → PyError
no_number s v = PercentArgs (NumberRequired s.format_char (class_of v))

abbrev pub no_integer : CFormatSpec → Plain → PyError
no_integer s v = PercentArgs (IntegerRequired s.format_char (class_of v))

-- what a handle answered has to be an integer
abbrev pub told_number : CFormatSpec → ℕ → Option Plain → Result ℤ PyError
told_number s h None = Err (no_number s (handle h))
told_number s h (Some a) = ok_or (integer_of a) (no_number s (handle h))

-- the number of a value for `d i u`: an integer, a bool, or what `int` makes of a handle
abbrev pub decimal_of : CFormatSpec → Plain → Asking ℤ
decimal_of s (handle h) = asks h ToInt none (λ a. gives (told_number s h a))
decimal_of s v = gives (ok_or (integer_of v) (no_number s v))

-- and for `o x X`: an integer or a bool
abbrev pub integer_in : CFormatSpec → Plain → Result ℤ PyError
integer_in s v = ok_or (integer_of v) (no_integer s v)

abbrev pub number_of : CNumberType → CFormatSpec → Plain → Asking ℤ
number_of Decimal s v = decimal_of s v
number_of Octal s v = gives (integer_in s v)
number_of Hex s v = gives (integer_in s v)
number_of HexUpper s v = gives (integer_in s v)

abbrev pub write_number : Kind → CNumberType → CFormatSpec → Plain → Asking (List ℕ)
write_number kind type s v =
    number_of type s v and_then λ z. gives (Ok (in_units kind (number_text s z)))

-- characters

-- the byte of a number
abbrev pub byte_of : ℤ → Option ℕ
byte_of (pos n) = if nat_lt n 256 then Some n else None
byte_of (negsuc n) = None

-- the character of a number; in a template of bytes, its byte
abbrev pub unit_of : Kind → ℤ → Result ℕ PyError
unit_of Text z = ok_or (char_of z) (CharRange 1114112)
unit_of Binary z = ok_or (byte_of z) (CharRange 256)

abbrev pub no_char : Kind → PyError
no_char kind = PercentArgs (CharRequired (is_binary kind))

-- the only unit of a text or of bytes
abbrev pub only_unit : Kind → List ℕ → Result ℕ PyError
only_unit kind (c ∷ []) = Ok c
only_unit kind _ = Err (no_char kind)

-- the character of a value: of an integer, of a bool as 0 or 1, or of a text of length 1; in a
-- template of bytes, of bytes of length 1
abbrev pub char_in : Kind → Plain → Result ℕ PyError
char_in kind (bool b) = unit_of kind (int_of_bool b)
char_in kind (int z) = unit_of kind z
char_in Text (str cs) = only_unit Text cs
char_in Binary (bytes bs) = only_unit Binary bs
char_in kind v = Err (no_char kind)

abbrev pub write_char : Kind → CFormatSpec → Plain → Result (List ℕ) PyError
write_char kind s v = map_ok (λ c. filled s (c ∷ [])) (char_in kind v)

-- strings

abbrev pub no_bytes : Plain → PyError
no_bytes v = PercentArgs (BytesRequired (class_of v))

-- what a handle answered has to be bytes
abbrev pub answered_bytes : Plain → Result (List ℕ) PyError
answered_bytes (bytes bs) = Ok bs
answered_bytes v = Err (Downcast BytesClass (class_of v))

abbrev pub told_bytes : ℕ → Option Plain → Result (List ℕ) PyError
told_bytes h None = Err (no_bytes (handle h))
told_bytes h (Some v) = answered_bytes v

-- the bytes of a value: bytes, or what `bytes` makes of a handle
abbrev pub bytes_of : Plain → Asking (List ℕ)
bytes_of (bytes bs) = gives (Ok bs)
bytes_of (handle h) = asks h ToBytes none (λ a. gives (told_bytes h a))
bytes_of v = gives (Err (no_bytes v))

-- the error for the type `b`, which is 98, in a template of text
abbrev pub no_binary : ℕ → PyError
no_binary place = PercentParse (UnsupportedChar 98) (place + 1)

-- the ASCII text of a value as bytes
abbrev pub ascii_bytes : Plain → Asking (List ℕ)
ascii_bytes v = ascii_of v and_then λ t. gives (Ok (encode_utf8_all t))

-- a value as a string, by the type of the specifier at a place
abbrev pub string_in_text : CFormatConversion → ℕ → Plain → Asking (List ℕ)
string_in_text Str place v = str_of v
string_in_text Repr place v = repr_of v
string_in_text Ascii place v = ascii_of v
string_in_text Bytes place v = gives (Err (no_binary place))

abbrev pub string_in_bytes : CFormatConversion → Plain → Asking (List ℕ)
string_in_bytes Str v = bytes_of v
string_in_bytes Bytes v = bytes_of v
string_in_bytes Repr v = ascii_bytes v
string_in_bytes Ascii v = ascii_bytes v

abbrev pub string_of : Kind → CFormatConversion → ℕ → Plain → Asking (List ℕ)
string_of Text type place v = string_in_text type place v
string_of Binary type place v = string_in_bytes type v

abbrev pub write_string : Kind → CFormatConversion → CFormatSpec → ℕ → Plain → Asking (List ℕ)
write_string kind type s place v =
    string_of kind type place v and_then λ t. gives (Ok (string_units s t))

-- how a specifier at a place writes a value
abbrev pub write_as : CFormatType → Kind → CFormatSpec → ℕ → Plain → Asking (List ℕ)
write_as (Number type) kind s place v = write_number kind type s v
write_as Character kind s place v = gives (write_char kind s v)
write_as (String type) kind s place v = write_string kind type s place v

abbrev pub write : Kind → CFormatSpec → ℕ → Plain → Asking (List ℕ)
write kind s place v = write_as s.format_type kind s place v

-- units with a value after them
abbrev pub put_value : Kind → CFormatSpec → ℕ → Plain → List ℕ → Asking (List ℕ)
put_value kind s place v out = write kind s place v and_then λ t. gives (Ok (out ++ t))
