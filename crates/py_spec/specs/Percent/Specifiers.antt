-- How many specifiers a template has, and whether they have keys.
use Rattle.std.specs.Prelude.{ℕ, ◌+◌, ◌&&◌, nat_lt, Bool, false, not, if◌then◌else◌, Option, Some, None, is_some, count_by}
use Rattle.py_spec.specs.declared.percent.parts.CFormatPart.{CFormatPart}
use Rattle.py_spec.specs.declared.percent.parts.CFormatPart.TheVariants.{Literal, LiteralBytes, Spec}
use Rattle.py_spec.specs.Percent.Template.{Parts}

-- a specifier with a key, and one without
abbrev pub is_keyed : CFormatPart → Bool
is_keyed (Spec s) = is_some s.mapping_key
is_keyed (Literal text) = false
is_keyed (LiteralBytes bytes) = false

abbrev pub is_bare : CFormatPart → Bool
is_bare (Spec s) = not (is_some s.mapping_key)
is_bare (Literal text) = false
is_bare (LiteralBytes bytes) = false

abbrev pub checked : ℕ → ℕ → Option (ℕ × Bool)
checked keyed bare =
    if nat_lt 0 keyed && nat_lt 0 bare then None else Some (keyed + bare, nat_lt 0 keyed)

-- how many specifiers there are, and whether they have keys; none where some have and some have not
abbrev pub specifiers_of : Parts → Option (ℕ × Bool)
specifiers_of ps = checked (count_by (λ p. is_keyed p.1) ps) (count_by (λ p. is_bare p.1) ps)
