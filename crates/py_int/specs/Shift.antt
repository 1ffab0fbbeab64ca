-- Shifts: products with powers of 2, and their floors.
use Rattle.std.specs.Prelude.{◌≡◌, ℕ, ◌^◌, ℤ, pos, ◌*ℤ◌, ◌≤ℤ◌, unsigned_abs, Result, Ok}
use Rattle.py_base.specs.declared.error.PyError.{PyError}
use Rattle.py_int.specs.Divide.{floor_of}
use Rattle.py_int.specs.Number.{Carries}

-- z times 2^k
abbrev pub shifted_left : ℤ → ℕ → ℤ
shifted_left z k = z *ℤ pos (2 ^ k)

-- the floor of z over 2^k
abbrev pub shifted_right : ℤ → ℕ → ℤ
shifted_right z k = floor_of z (2 ^ k)

-- where k is not negative, r is z << k, or the error where that is too wide
abbrev pub IsShiftedLeft : ℤ → ℤ → Result ℤ PyError → Type 0
IsShiftedLeft z k r = pos 0 ≤ℤ k → Carries (shifted_left z (unsigned_abs k)) r

-- where k is not negative, r is z >> k
abbrev pub IsShiftedRight : ℤ → ℤ → Result ℤ PyError → Type 0
IsShiftedRight z k r = pos 0 ≤ℤ k → r ≡ Ok (shifted_right z (unsigned_abs k))
