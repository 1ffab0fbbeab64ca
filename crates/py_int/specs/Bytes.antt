-- Integers as bytes: digits of base 256, in two's complement where signed.
use Rattle.std.specs.Prelude.{◌≡◌, ℕ, zero, suc, ◌*◌, ◌-◌, ◌%◌, ◌^◌, ℤ, pos, negsuc, ◌-ℤ◌, Bool, true, false, nat_lt, nat_le, List, [], ◌∷◌, length, reverse, map, if◌then◌else◌}
use Rattle.std.specs.Int.Digits.{number_from_digits}
use Rattle.py_int.specs.declared.bytes.ArgByteOrder.{ArgByteOrder}
use Rattle.py_int.specs.declared.bytes.ArgByteOrder.TheVariants.{Big, Little}
use Rattle.py_int.specs.Divide.{floor_of}

-- turns bytes in an order into bytes with the highest first, and back
abbrev pub in_order : ArgByteOrder → List ℕ → List ℕ
in_order Big bytes = bytes
in_order Little bytes = reverse bytes

-- n, or n - m where n is in the upper half of the numbers below m
abbrev pub complemented : ℕ → ℕ → ℤ
complemented m n = if nat_lt (2 * n) m then pos n else pos n -ℤ pos m

-- the integer that bytes spell, the highest first
abbrev pub number_of : Bool → List ℕ → ℤ
number_of false bytes = pos (number_from_digits 256 bytes)
number_of true bytes = complemented (256 ^ length bytes) (number_from_digits 256 bytes)

-- the lowest digit of z in base 256, which is never negative
abbrev pub low_byte : ℤ → ℕ
low_byte (pos n) = n % 256
low_byte (negsuc n) = 255 - n % 256

-- k digits of z in base 256, the lowest first
abbrev pub low_bytes : ℕ → ℤ → List ℕ
low_bytes zero z = []
low_bytes (suc k) z = low_byte z ∷ low_bytes k (floor_of z 256)

-- k bytes of z in an order
abbrev pub bytes_in : ArgByteOrder → ℕ → ℤ → List ℕ
bytes_in Little k z = low_bytes k z
bytes_in Big k z = reverse (low_bytes k z)

-- from 0 to m - 1 without a sign, from -m / 2 to m / 2 - 1 with a sign
abbrev pub is_within : Bool → ℕ → ℤ → Bool
is_within false m (pos n) = nat_lt n m
is_within false m (negsuc n) = false
is_within true m (pos n) = nat_lt (2 * n) m
is_within true m (negsuc n) = nat_le (2 * suc n) m

-- k bytes hold z
abbrev pub holds : Bool → ℕ → ℤ → Bool
holds signed k z = is_within signed (256 ^ k) z

-- negative, and to be written without a sign
abbrev pub lacks_sign : Bool → ℤ → Bool
lacks_sign false (negsuc n) = true
lacks_sign false (pos n) = false
lacks_sign true z = false

-- neither lacks a sign nor is held by k bytes
abbrev pub IsTooBig : Bool → ℕ → ℤ → Type 0
IsTooBig signed k z = (lacks_sign signed z ≡ false) × (holds signed k z ≡ false)

-- signed bytes whose highest bit is 1
abbrev pub is_high : Bool → List ℕ → Bool
is_high false bytes = false
is_high true [] = false
is_high true (b ∷ bs) = nat_le 128 b

-- the bytes, or how far each is below 255
abbrev pub digits_if : Bool → List ℕ → List ℕ
digits_if false bytes = bytes
digits_if true bytes = map (λ b. 255 - b) bytes

-- the natural number that they spell
abbrev pub size : Bool → List ℕ → ℕ
size turned bytes = number_from_digits 256 (digits_if turned bytes)
