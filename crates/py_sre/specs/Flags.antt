-- Flags, and letters.
use Rattle.std.specs.Prelude.{ℕ, ℤ, pos, negsuc, Bool, false, nat_le, ◌&&◌, ◌||◌}
use Rattle.std.specs.Int.RustNames.{bit_and}

-- the nine lowest bits, which are those of the flags that there are
abbrev pub known_flags : ℕ → ℕ
known_flags flags = bit_and flags 511

-- from a to b
abbrev pub is_from : ℕ → ℕ → ℕ → Bool
is_from a b c = nat_le a c && nat_le c b

-- from A to Z (65 to 90) or from a to z (97 to 122)
abbrev pub is_letter : ℤ → Bool
is_letter (pos c) = is_from 65 90 c || is_from 97 122 c
is_letter (negsuc _) = false
