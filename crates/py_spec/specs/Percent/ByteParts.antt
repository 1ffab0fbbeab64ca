-- The parts of a percent template of bytes: those of the text whose code points are the bytes.
use Rattle.std.specs.Prelude.{ℕ, nat_lt, ◌&&◌, Bool, true, List, [], ◌∷◌, map, Option, Some, None, option_map, Result, Ok, Err}
use Rattle.py_base.specs.declared.error.PyError.{PyError}
use Rattle.py_spec.specs.declared.percent.parts.CFormatKey.{CFormatKey}
use Rattle.py_spec.specs.declared.percent.parts.CFormatKey.TheVariants.{Text, Bytes}
use Rattle.py_spec.specs.declared.percent.parts.CFormatPart.{CFormatPart}
use Rattle.py_spec.specs.declared.percent.parts.CFormatPart.TheVariants.{Literal, LiteralBytes, Spec}
use Rattle.py_spec.specs.declared.percent.parts.CFormatSpec.{CFormatSpec}
use Rattle.py_spec.specs.Percent.Template.{Parts, percent_parts}

-- a key, a specifier and a part as bytes: the same units
abbrev pub key_bytes : CFormatKey → CFormatKey
key_bytes (Text key) = Bytes key
key_bytes (Bytes key) = Bytes key

abbrev pub spec_bytes : CFormatSpec → CFormatSpec
spec_bytes s = record {
  mapping_key = option_map key_bytes s.mapping_key;
  flags = s.flags;
  min_field_width = s.min_field_width;
  precision = s.precision;
  format_type = s.format_type;
  format_char = s.format_char;
}

abbrev pub part_bytes : CFormatPart → CFormatPart
part_bytes (Literal text) = LiteralBytes text
part_bytes (LiteralBytes bytes) = LiteralBytes bytes
part_bytes (Spec s) = Spec (spec_bytes s)

abbrev pub parts_bytes : Parts → Parts
parts_bytes ps = map (λ p. (p.0, part_bytes p.1)) ps

abbrev pub as_bytes : Result Parts PyError → Result Parts PyError
as_bytes (Ok ps) = Ok (parts_bytes ps)
as_bytes (Err e) = Err e

-- the parts of a template of bytes, or its first fault
abbrev pub byte_parts : List ℕ → Result Parts PyError
byte_parts bs = as_bytes (percent_parts bs)

-- each unit is a byte, and so are those of a key, a part and all parts
abbrev pub all_bytes : List ℕ → Bool
all_bytes [] = true
all_bytes (c ∷ cs) = nat_lt c 256 && all_bytes cs

abbrev pub is_byte_key : Option CFormatKey → Bool
is_byte_key None = true
is_byte_key (Some (Text key)) = all_bytes key
is_byte_key (Some (Bytes key)) = all_bytes key

abbrev pub is_byte_part : CFormatPart → Bool
is_byte_part (Literal text) = all_bytes text
is_byte_part (LiteralBytes bytes) = all_bytes bytes
is_byte_part (Spec s) = is_byte_key s.mapping_key

abbrev pub are_byte_parts : Parts → Bool
are_byte_parts [] = true
are_byte_parts (p ∷ ps) = is_byte_part p.1 && are_byte_parts ps
