-- Integers rounded to tens, hundreds and so on.
use Rattle.std.specs.Prelude.{◌≡◌, ◌≢◌, ◌≤◌, ◌-ℤ◌, ◌*ℤ◌, ◌<ℤ◌, Result, false, ℕ, ◌+◌, ◌*◌, ◌/◌, ◌%◌, ◌^◌, ◌==◌, ◌&&◌, ◌||◌, nat_lt, ℤ, pos, negsuc, neg_ℤ, unsigned_abs, if◌then◌else◌}
use Rattle.py_base.specs.declared.error.PyError.{PyError}
use Rattle.py_int.specs.Bits.{is_odd}
use Rattle.py_int.specs.Number.{Carries}

-- the greatest power of ten below 2^127
abbrev pub greatest_power : ℕ
greatest_power = 38

-- the integer nearest to n / u, ties to even
abbrev pub nearest : ℕ → ℕ → ℕ
nearest n u =
    if nat_lt u (2 * (n % u)) || ((2 * (n % u) == u) && (n / u % 2 == 1)) then n / u + 1 else n / u

-- n, with the sign of z
abbrev pub with_sign_of : ℤ → ℕ → ℤ
with_sign_of (pos m) n = pos n
with_sign_of (negsuc m) n = neg_ℤ (pos n)

-- the multiple of 10^d nearest to |z|, with the sign of z
abbrev pub rounded : ℤ → ℕ → ℤ
rounded z d = with_sign_of z (10 ^ d * nearest (unsigned_abs z) (10 ^ d))

-- r is z rounded to so many places, where there are less than none
abbrev pub IsCut : ℤ → ℤ → Result ℤ PyError → Type 0
IsCut z places r = places <ℤ pos 0 → Carries (rounded z (unsigned_abs places)) r

abbrev pub distance : ℤ → ℤ → ℕ
distance a b = unsigned_abs (a -ℤ b)

-- r is a multiple of u; none is nearer to z; where another is as near, r's quotient is even
pub record IsNearestMultiple (u : ℕ) (z r : ℤ) : Type 0 where
  pub quotient : ℤ
  pub multiple : r ≡ pos u *ℤ quotient
  pub nearest_one : (k : ℤ) → distance z r ≤ distance z (pos u *ℤ k)
  pub ties_to_even : (k : ℤ) →
      k ≢ quotient → distance z r ≡ distance z (pos u *ℤ k) → is_odd quotient ≡ false
