-- What a percent template makes of a value: its text or bytes, or the first error.
use Rattle.std.specs.Prelude.{ℕ, Bool, true, false, if◌then◌else◌, List, [], ◌∷◌, ◌++◌, Option, Some, None, Result, Ok, Err}
use Rattle.py_base.specs.declared.error.percent.PercentCause.TheVariants.{NeedsMapping, LeftOver, StarNotInt}
use Rattle.py_base.specs.declared.error.PyError.{PyError}
use Rattle.py_base.specs.declared.error.PyError.TheVariants.{PercentArgs}
use Rattle.py_spec.specs.declared.percent.parts.CFormatKey.{CFormatKey}
use Rattle.py_spec.specs.declared.percent.parts.CFormatKey.TheVariants.{Text as TextKey, Bytes as BytesKey}
use Rattle.py_spec.specs.declared.percent.parts.CFormatPart.{CFormatPart}
use Rattle.py_spec.specs.declared.percent.parts.CFormatPart.TheVariants.{Literal, LiteralBytes, Spec}
use Rattle.py_spec.specs.declared.percent.parts.CFormatPrecision.{CFormatPrecision}
use Rattle.py_spec.specs.declared.percent.parts.CFormatPrecision.TheVariants.{Quantity}
use Rattle.py_spec.specs.declared.percent.parts.CFormatQuantity.{CFormatQuantity}
use Rattle.py_spec.specs.declared.percent.parts.CFormatQuantity.TheVariants.{FromValuesTuple}
use Rattle.py_spec.specs.declared.percent.parts.CFormatSpec.{CFormatSpec}
use Rattle.py_spec.specs.Percent.ByteParts.{byte_parts}
use Rattle.py_spec.specs.Percent.Specifiers.{specifiers_of}
use Rattle.py_spec.specs.Percent.Template.{Parts, percent_parts}
use Rattle.py_value.specs.Asking.{Asking, gives, tests, ◌and_then◌}
use Rattle.py_value.specs.Lookup.{item}
use Rattle.py_value.specs.Plain.{Plain, Plains, none, str, bytes, list, dict, handle, empty, ◌then◌}
use Rattle.py_format.specs.declared.percent.kind.Kind.{Kind}
use Rattle.py_format.specs.declared.percent.kind.Kind.TheVariants.{Text, Binary}
use Rattle.py_format.specs.Percent.Taking.{Taken, take_width, take_precision, next_value, settled, values_in}
use Rattle.py_format.specs.Percent.Values.{is_binary, put_value}

-- a value that serves as a mapping: a list, a dictionary, a handle that has items; in a template of
-- text bytes too, and in one of bytes a text too
abbrev pub is_mapping : Kind → Plain → Asking Bool
is_mapping kind (list vs) = gives (Ok true)
is_mapping kind (dict es) = gives (Ok true)
is_mapping kind (handle h) = tests h (λ has. gives (Ok has))
is_mapping Text (bytes bs) = gives (Ok true)
is_mapping Binary (str cs) = gives (Ok true)
is_mapping kind v = gives (Ok false)

-- the units of a literal; a template has those of its own kind alone
abbrev pub literal : Kind → CFormatPart → List ℕ
literal Text (Literal cs) = cs
literal Binary (LiteralBytes bs) = bs
literal kind part = []

-- without keys

-- units with what a specifier writes after them, and the values that are left: it takes its `*`
-- width, its `*` precision and its value in that order, each tested as it is taken
abbrev pub put_next : Kind → CFormatSpec → ℕ → Plains → List ℕ → Asking (List ℕ × Plains)
put_next kind s place vs out =
    gives (take_width s.flags s.min_field_width vs) and_then λ w.
    gives (take_precision s.precision w.1) and_then λ p.
    gives (next_value p.1) and_then λ v.
    put_value kind (settled s w.0 p.0) place v.0 out and_then λ t.
    gives (Ok (t, v.1))

abbrev pub put_part : Kind → ℕ → CFormatPart → Plains → List ℕ → Asking (List ℕ × Plains)
put_part kind place (Spec s) vs out = put_next kind s place vs out
put_part kind place part vs out = gives (Ok (out ++ literal kind part, vs))

-- at the end no value is left, unless the values are a mapping
abbrev pub none_left : Kind → Bool → Plains → Result (Unit {0}) PyError
none_left kind mapping empty = Ok tt
none_left kind mapping (v then vs) =
    if mapping then Ok tt else Err (PercentArgs (LeftOver (is_binary kind)))

-- units with all parts after them, of which each takes its values in turn
abbrev pub put_parts : Kind → Bool → Parts → Plains → List ℕ → Asking (List ℕ)
put_parts kind mapping [] vs out = gives (none_left kind mapping vs) and_then λ u. gives (Ok out)
put_parts kind mapping (p ∷ ps) vs out =
    put_part kind p.0 p.1 vs out and_then λ r. put_parts kind mapping ps r.1 r.0

-- with keys

-- a width or a precision is a `*`
abbrev pub is_star : Option CFormatQuantity → Bool
is_star (Some FromValuesTuple) = true
is_star _ = false

abbrev pub quantity_in : Option CFormatPrecision → Option CFormatQuantity
quantity_in (Some (Quantity q)) = Some q
quantity_in _ = None

abbrev pub has_star : CFormatSpec → Bool
has_star s = if is_star s.min_field_width then true else is_star (quantity_in s.precision)

-- a key as a value
abbrev pub key_value : Option CFormatKey → Plain
key_value None = none
key_value (Some (TextKey cs)) = str cs
key_value (Some (BytesKey bs)) = bytes bs

-- units with what a specifier writes of the value of its key; a `*` fails before the look-up
abbrev pub put_keyed : Kind → CFormatSpec → ℕ → Plain → List ℕ → Asking (List ℕ)
put_keyed kind s place values out =
    if has_star s then gives (Err (PercentArgs StarNotInt))
    else (item values (key_value s.mapping_key) and_then λ v. put_value kind s place v out)

abbrev pub put_keyed_part : Kind → ℕ → CFormatPart → Plain → List ℕ → Asking (List ℕ)
put_keyed_part kind place (Spec s) values out = put_keyed kind s place values out
put_keyed_part kind place part values out = gives (Ok (out ++ literal kind part))

abbrev pub put_keyed_parts : Kind → Parts → Plain → List ℕ → Asking (List ℕ)
put_keyed_parts kind [] values out = gives (Ok out)
put_keyed_parts kind (p ∷ ps) values out =
    put_keyed_part kind p.0 p.1 values out and_then λ t. put_keyed_parts kind ps values t

-- all specifiers have keys, and then the values are a mapping, or none has
abbrev pub needs_mapping : Asking (List ℕ)
needs_mapping = gives (Err (PercentArgs NeedsMapping))

abbrev pub put_all_by : Option (ℕ × Bool) → Kind → Bool → Parts → Plain → List ℕ → Asking (List ℕ)
put_all_by None kind mapping ps values out = needs_mapping
put_all_by (Some (n, true)) kind true ps values out = put_keyed_parts kind ps values out
put_all_by (Some (n, true)) kind false ps values out = needs_mapping
put_all_by (Some (n, false)) kind mapping ps values out =
    put_parts kind mapping ps (values_in values) out

abbrev pub put_all : Kind → Parts → Plain → List ℕ → Asking (List ℕ)
put_all kind ps values out =
    is_mapping kind values and_then λ mapping.
    put_all_by (specifiers_of ps) kind mapping ps values out

-- the parts of a template, or its first fault
abbrev pub parts_of : Kind → List ℕ → Result Parts PyError
parts_of Text cs = percent_parts cs
parts_of Binary bs = byte_parts bs

-- what a template makes of a value
abbrev pub percent : Kind → List ℕ → Plain → Asking (List ℕ)
percent kind template values =
    gives (parts_of kind template) and_then λ ps. put_all kind ps values []

-- units that were written, beside the values that are left
abbrev pub both : Result (Unit {0}) PyError → List ℕ → Plains → Taken (List ℕ)
both (Ok u) out vs = Ok (out, vs)
both (Err e) out vs = Err e
