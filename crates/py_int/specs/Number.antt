-- Integers without a bound, and where 128 bits hold them.
use Rattle.std.specs.Prelude.{ℕ, ℤ, pos, negsuc, ◌^◌, ◌<◌, ◌≤◌, Bool, nat_le, ◌≡◌, MatchOption, Option, None, Some, Result, Ok, Err, if◌then◌else◌}
use Rattle.py_base.specs.declared.error.PyError.{PyError}
use Rattle.py_base.specs.declared.error.PyError.TheVariants.{IntTooWide}

-- how many binary digits an integer has beside its sign
abbrev pub value_bits : ℕ
value_bits = 127

-- below -2^127 or above 2^127 - 1
abbrev pub wide : ℤ → Bool
wide (pos n) = nat_le (2 ^ value_bits) n
wide (negsuc n) = nat_le (2 ^ value_bits) n

-- the integer, or the error where it is too wide
abbrev pub carried : ℤ → Result ℤ PyError
carried z = if wide z then Err IntTooWide else Ok z

-- r is z, or the error exactly where z is too wide
abbrev pub Carries : ℤ → Result ℤ PyError → Type 0
Carries z r = r ≡ carried z

-- r is the integer that there is, or the error where there is none
abbrev pub Gives : Option ℤ → Result ℤ PyError → Type 0
Gives None r = r ≡ Err IntTooWide
Gives (Some z) r = r ≡ Ok z

-- r is the natural number n, or none exactly where n is too wide
abbrev pub IsNarrow : ℕ → Option ℕ → Type 0
IsNarrow n r = MatchOption r (2 ^ value_bits ≤ n) (λ k. (k < 2 ^ value_bits) × (k ≡ n))
