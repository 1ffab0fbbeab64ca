-- Laws of percent templates.
use Rattle.std.specs.Prelude.{◌≡◌, ◌≤◌, ◌<◌, ◌+◌, ◌-◌, ◌&&◌, ℕ, ℤ, Bool, true, false, not, nat_lt, List, [], ◌∷◌, ◌++◌, length, Ok, unsigned_abs}
use Rattle.std.specs.Int.{is_negative}
use Rattle.py_spec.specs.declared.percent.parts.CFormatPart.{CFormatPart}
use Rattle.py_spec.specs.declared.percent.parts.CFormatPart.TheVariants.{Literal, LiteralBytes, Spec}
use Rattle.py_spec.specs.declared.percent.parts.CFormatSpec.{CFormatSpec}
use Rattle.py_spec.specs.Percent.ByteParts.{parts_bytes, byte_parts}
use Rattle.py_spec.specs.Percent.Flags.{left_adjust, zero_pad}
use Rattle.py_spec.specs.Percent.Spelling.{SpellAll}
use Rattle.py_spec.specs.Percent.Template.{Parts, read_parts, percent_parts}
use Rattle.py_spec.specs.Percent.Writing.{has, spaces, zeros, width_in, precision_in, filled, most_units, cut, string_units, sign_text, prefix_text, digits_of, least_digits, kind_of, number_text}

-- room for more parts than there are units left changes nothing
abbrev pub MoreRoomChangesNothing : Type 0
MoreRoomChangesNothing = (k more n : ℕ) (cs : List ℕ) → length cs < k
    → read_parts (k + more) n cs ≡ read_parts k n cs

abbrev pub is_literal : CFormatPart → Bool
is_literal (Literal text) = true
is_literal (LiteralBytes bytes) = true
is_literal (Spec s) = false

abbrev pub is_full : CFormatPart → Bool
is_full (Literal text) = nat_lt 0 (length text)
is_full (LiteralBytes bytes) = nat_lt 0 (length bytes)
is_full (Spec s) = true

abbrev pub all_full : Parts → Bool
all_full [] = true
all_full (p ∷ ps) = is_full p.1 && all_full ps

-- the parts of each template pass a test, and so do those of each template of bytes
pub record HoldsOfParts (test : Parts → Bool) : Type 0 where
  pub of_text : (cs : List ℕ) (ps : Parts) → percent_parts cs ≡ Ok ps → test ps ≡ true
  pub of_bytes : (bs : List ℕ) (ps : Parts) → byte_parts bs ≡ Ok ps → test ps ≡ true

-- no literal is empty
abbrev pub FullLiterals : Type 0
FullLiterals = HoldsOfParts all_full

abbrev pub begins_literal : Parts → Bool
begins_literal [] = false
begins_literal (p ∷ ps) = is_literal p.1

abbrev pub literals_apart : Parts → Bool
literals_apart [] = true
literals_apart (p ∷ ps) = not (is_literal p.1 && begins_literal ps) && literals_apart ps

-- no two literals are neighbours
abbrev pub LiteralsApart : Type 0
LiteralsApart = HoldsOfParts literals_apart

abbrev pub all_after : ℕ → Parts → Bool
all_after place [] = true
all_after place (p ∷ ps) = nat_lt place p.0 && all_after place ps

abbrev pub ascending : Parts → Bool
ascending [] = true
ascending (p ∷ ps) = all_after p.0 ps && ascending ps

-- each part begins after those before it
abbrev pub PlacesAscend : Type 0
PlacesAscend = HoldsOfParts ascending

-- the parts are the template: their units, one after another, are its units; of a template of bytes
-- these are the parts that become bytes
pub record PartsSpellTheTemplate : Type 0 where
  pub of_text : (cs : List ℕ) (ps : Parts) → percent_parts cs ≡ Ok ps → SpellAll (length cs) ps cs
  pub of_bytes : (bs : List ℕ) (ps : Parts) → byte_parts bs ≡ Ok ps
      → (qs : Parts) × (ps ≡ parts_bytes qs) × SpellAll (length bs) qs bs

-- units made of others: these with spaces after them where the flag `-` is set, and else before
-- them; as long as the width where the others are not longer, and else the others
pub record FillsTheWidth (s : CFormatSpec) (units made : List ℕ) : Type 0 where
  pub before : ℕ
  pub after : ℕ
  pub parts : made ≡ spaces before ++ (units ++ spaces after)
  pub left : has left_adjust s.flags ≡ true → before ≡ 0
  pub right : has left_adjust s.flags ≡ false → after ≡ 0
  pub filled : length units ≤ width_in s.min_field_width → length made ≡ width_in s.min_field_width
  pub kept : width_in s.min_field_width ≤ length units → made ≡ units

-- a text, of which the precision keeps so much, and a character fill the width
abbrev pub StringsFillTheWidth : Type 0
StringsFillTheWidth = (s : CFormatSpec) (units : List ℕ)
    → FillsTheWidth s (cut (most_units s.format_type s.precision) units) (string_units s units)

abbrev pub CharactersFillTheWidth : Type 0
CharactersFillTheWidth = (s : CFormatSpec) (c : ℕ)
    → FillsTheWidth s (c ∷ []) (filled s (c ∷ []))

-- digits of a number after its sign and prefix, with zeros between: as many as the precision wants,
-- and more only where the flag `0` is set and `-` is not, up to the width
pub record IsNumber (s : CFormatSpec) (head digits made : List ℕ) : Type 0 where
  pub count : ℕ
  pub spaced : FillsTheWidth s (head ++ (zeros count ++ digits)) made
  pub enough : least_digits (precision_in s.precision) ≤ count + length digits
  pub wide : has zero_pad s.flags ≡ true → has left_adjust s.flags ≡ false
      → width_in s.min_field_width ≤ length head + count + length digits
  pub few : least_digits (precision_in s.precision) - length digits < count
      → (has zero_pad s.flags ≡ true) × (has left_adjust s.flags ≡ false)
      × (length head + count + length digits ≡ width_in s.min_field_width)

-- so does a number, of its sign, prefix, zeros and digits
abbrev pub NumbersFillTheWidth : Type 0
NumbersFillTheWidth = (s : CFormatSpec) (z : ℤ)
    → let kind = kind_of s.format_type in
    IsNumber s (sign_text s.flags (is_negative z) ++ prefix_text s.flags kind)
    (digits_of kind (unsigned_abs z)) (number_text s z)
