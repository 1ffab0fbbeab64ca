-- Bits of two's complement, and how many binary digits an integer has.
use Rattle.std.specs.Prelude.{ℕ, ◌%◌, ◌^◌, ◌==◌, ◌<◌, ◌≤◌, ℤ, pos, negsuc, Bool}
use Rattle.py_int.specs.Shift.{shifted_right}

-- 2 does not divide z
abbrev pub is_odd : ℤ → Bool
is_odd (pos n) = n % 2 == 1
is_odd (negsuc n) = n % 2 == 0

-- bit k of z in two's complement, which goes on for ever
abbrev pub bit : ℤ → ℕ → Bool
bit z k = is_odd (shifted_right z k)

-- k is the least number of binary digits that write n
pub record IsBitLength (n k : ℕ) : Type 0 where
  pub enough : n < 2 ^ k
  pub least : (j : ℕ) → n < 2 ^ j → k ≤ j
