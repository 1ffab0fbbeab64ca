-- Digits of lower-case hexadecimal.
use Rattle.std.specs.Prelude.{ℕ, Bool, nat_le, not, ◌&&◌, ◌||◌}

-- a byte is one of `0` to `9` (48 to 57), or of `a` to `f` (97 to 102)
abbrev pub is_digit : ℕ → Bool
is_digit byte = (nat_le 48 byte && nat_le byte 57) || (nat_le 97 byte && nat_le byte 102)

abbrev pub is_no_digit : ℕ → Bool
is_no_digit byte = not (is_digit byte)
