-- Values, and how a specifier writes them.
use Rattle.std.specs.Prelude.{◌≡◌, codes, Ok, Some, None, [], ◌∷◌, pos, negsuc}
use Rattle.std.specs.Fmt.{digits}
use Rattle.std.proofs.Common.{refl}
use Rattle.py_spec.specs.declared.percent.parts.CFormatKey.TheVariants.{Bytes}
use Rattle.py_spec.specs.declared.percent.parts.CFormatPart.TheVariants.{LiteralBytes, Spec}
use Rattle.py_spec.specs.declared.percent.parts.CFormatQuantity.TheVariants.{Amount}
use Rattle.py_spec.specs.declared.percent.parts.CFormatPrecision.TheVariants.{Quantity}
use Rattle.py_spec.specs.declared.percent.parts.CFormatType.TheVariants.{Number, Character, String}
use Rattle.py_spec.specs.declared.percent.parts.CNumberType.TheVariants.{Decimal, Hex}
use Rattle.py_spec.specs.declared.percent.parts.CFormatConversion.TheVariants.{Str}
use Rattle.py_spec.specs.Percent.ByteParts.{byte_parts}
use Rattle.py_spec.specs.Percent.Flags.{flag}
use Rattle.py_spec.specs.Percent.Reading.{typed_spec}
use Rattle.py_spec.specs.Percent.Writing.{number_text, string_units}

-- `%#08x` of -255 is `-0x000ff`: the zeros are after the prefix
zeros_after_prefix : number_text
    (typed_spec None (flag 3) (Some (Amount 8)) None (Number Hex, 120)) (negsuc 254)
    ≡ codes "-0x000ff"
unfolding digits
zeros_after_prefix = refl

-- `%05.3d` of 7 is `00007`, and `%-05d` of 7 has spaces after it
zeros_up_to_width : number_text
    (typed_spec None (flag 2) (Some (Amount 5)) (Some (Quantity (Amount 3))) (Number Decimal, 100))
    (pos 7)
    ≡ codes "00007"
unfolding digits
zeros_up_to_width = refl

left_without_zeros : number_text
    (typed_spec None (flag 6) (Some (Amount 5)) None (Number Decimal, 100)) (pos 7)
    ≡ codes "7    "
unfolding digits
left_without_zeros = refl

-- `%+ d` of 5 has the `+`
plus_first : number_text (typed_spec None (flag 24) None None (Number Decimal, 100)) (pos 5)
    ≡ codes "+5"
unfolding digits
plus_first = refl

-- `%5.2s` of `abc` is `ab` after three spaces
cut_and_filled : string_units
    (typed_spec None (flag 0) (Some (Amount 5)) (Some (Quantity (Amount 2))) (String Str, 115))
    (codes "abc")
    ≡ codes "   ab"
cut_and_filled = refl

-- `%.0c` is not cut
character_not_cut : string_units
    (typed_spec None (flag 0) None (Some (Quantity (Amount 0))) (Character, 99)) (codes "x")
    ≡ codes "x"
character_not_cut = refl

-- a template of bytes has its literals and keys as bytes
byte_template : byte_parts (codes "a%%%(k)d")
    ≡ Ok ((0, LiteralBytes (codes "a%"))
    ∷ (3, Spec (typed_spec (Some (Bytes (codes "k"))) (flag 0) None None (Number Decimal, 100)))
    ∷ [])
byte_template = refl
