-- The bytes at which code points begin.
use Rattle.std.specs.Prelude.{ℕ, Bool, ◌||◌, nat_lt, nat_le, List, count_by}

-- a code point begins with each byte that is no continuation byte
abbrev pub is_start : ℕ → Bool
is_start b = nat_lt b 0x80 || nat_le 0xC0 b

-- how many code points begin in the bytes
abbrev pub starts_in : List ℕ → ℕ
starts_in bytes = count_by is_start bytes
