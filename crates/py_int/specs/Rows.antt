-- Worked rows, which compute.
use Rattle.std.specs.Prelude.{◌≡◌, refl, pos, negsuc, ◌-◌, ◌^◌, [], ◌∷◌, codes, true, false, Ok, Err}
use Rattle.py_base.specs.declared.error.PyError.TheVariants.{IntTooWide, InvalidLiteral, BadBase}
use Rattle.py_int.specs.declared.bytes.ArgByteOrder.TheVariants.{Big, Little}
use Rattle.py_int.specs.Bits.{bit}
use Rattle.py_int.specs.Shift.{shifted_left, shifted_right}
use Rattle.py_int.specs.Bytes.{bytes_in, holds, in_order, number_of}
use Rattle.py_int.specs.Divide.{divided, floor_mod}
use Rattle.py_int.specs.Literal.{int_of}
use Rattle.py_int.specs.Number.{carried}
use Rattle.py_int.specs.Power.{power}
use Rattle.py_int.specs.Round.{rounded}

-- `divmod(-7, 2)` and `divmod(-2 ** 127, -1)`
pub quotient_down : divided (negsuc 6) (pos 2) ≡ Ok (negsuc 3, pos 1)
quotient_down = refl

pub least_by_minus_one : divided (negsuc (2 ^ 127 - 1)) (negsuc 0) ≡ Err IntTooWide
least_by_minus_one = refl

-- `round(12250, -2)`, `round(-12350, -2)`, `round(2 ** 127 - 1, -1)`, `round(5, -40)`
pub half_to_even : rounded (pos 12250) 2 ≡ pos 12200
half_to_even = refl

pub half_away : rounded (negsuc 12349) 2 ≡ negsuc 12399
half_away = refl

pub rounded_too_wide : carried (rounded (pos (2 ^ 127 - 1)) 1) ≡ Err IntTooWide
rounded_too_wide = refl

pub nothing_left : rounded (pos 5) 40 ≡ pos 0
nothing_left = refl

-- `1 << 127`, `-1 << 127`, `-5 >> 1`
pub shifted_too_wide : carried (shifted_left (pos 1) 127) ≡ Err IntTooWide
shifted_too_wide = refl

pub least_number : carried (shifted_left (negsuc 0) 127) ≡ Ok (negsuc (2 ^ 127 - 1))
least_number = refl

pub shifted_down : shifted_right (negsuc 4) 1 ≡ negsuc 2
shifted_down = refl

-- the bits of -6 are .. 1 1 0 1 0
pub bit_of_minus_six : bit (negsuc 5) 2 ≡ false
bit_of_minus_six = refl

-- `-1 % 2 ** 32`, as a mask of 32 digits has it
pub mask_of_minus_one : floor_mod (negsuc 0) (pos (2 ^ 32)) ≡ pos 4294967295
mask_of_minus_one = refl

-- `(-2) ** 127`
pub power_of_minus_two : carried (power (negsuc 1) 127) ≡ Ok (negsuc (2 ^ 127 - 1))
power_of_minus_two = refl

-- `258 .to_bytes(2, "big")`, and that one byte holds no 256
pub two_bytes : bytes_in Big 2 (pos 258) ≡ 1 ∷ 2 ∷ []
two_bytes = refl

pub no_byte : holds false 1 (pos 256) ≡ false
no_byte = refl

-- `int.from_bytes(b"\x00\xff", "little", signed=True)`
pub negative_bytes : number_of true (in_order Little (0 ∷ 255 ∷ [])) ≡ negsuc 255
negative_bytes = refl

-- `int(" -0b1_0 ", 0)`, `int("00", 0)`, `int("01", 0)`, `int("1", 1)`
pub prefix_chooses : int_of 0 (codes " -0b1_0 ") ≡ Ok (negsuc 1)
prefix_chooses = refl

pub only_zeros : int_of 0 (codes "00") ≡ Ok (pos 0)
only_zeros = refl

pub leading_zero : int_of 0 (codes "01") ≡ Err (InvalidLiteral 0)
leading_zero = refl

pub base_one : int_of 1 (codes "1") ≡ Err BadBase
base_one = refl
