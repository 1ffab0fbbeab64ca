-- What is escaped in `repr` and `ascii` of a text.
use Rattle.std.specs.Prelude.{ℕ, Bool, true, false, not, ◌&&◌, ◌||◌, ◌==◌, nat_le, List}
use Rattle.py_base.specs.Chars.Classes.{is_printable}
use Rattle.py_base.specs.Chars.Quoting.{quoted}

-- what `ascii` does not escape: a printable character up to `~`
abbrev pub is_plain : ℕ → Bool
is_plain c = is_printable c && nat_le c 0x7E

-- `ascii` of a text
abbrev pub text_ascii : List ℕ → List ℕ
text_ascii cs = quoted is_plain cs

-- the class of what is not escaped, in `ascii` or in `repr`
abbrev pub plain_of : Bool → ℕ → Bool
plain_of true c = is_plain c
plain_of false c = is_printable c

-- a character that is written as it is between these quotes
abbrev pub is_kept : ℕ → Bool → ℕ → Bool
is_kept quote plain c = plain && not (c == quote || c == 92 || c == 10 || c == 13 || c == 9)

-- the same, by the class
abbrev pub keeps : Bool → ℕ → ℕ → Bool
keeps ascii quote c = is_kept quote (plain_of ascii c) c
