-- Quotients that are rounded down, and their remainders.
use Rattle.std.specs.Prelude.{◌≡◌, ◌+◌, ◌/◌, ◌<◌, ◌==◌, Bool, true, false, ℕ, suc, ℤ, pos, negsuc, ◌+ℤ◌, ◌-ℤ◌, ◌*ℤ◌, neg_ℤ, Result, Ok, Err, if◌then◌else◌}
use Rattle.std.specs.Prelude.{unsigned_abs}
use Rattle.py_base.specs.declared.error.PyError.{PyError}
use Rattle.py_base.specs.declared.error.PyError.TheVariants.{IntTooWide}
use Rattle.py_int.specs.Number.{wide}

-- r is 0, or has the sign of b
abbrev pub HasSignOf : ℤ → ℤ → Type 0
HasSignOf (pos b) (pos r) = Unit {0}
HasSignOf (negsuc b) (negsuc r) = Unit {0}
HasSignOf (negsuc b) (pos r) = r ≡ 0
HasSignOf (pos b) (negsuc r) = ⊥

-- q and r of a by b: a = b·q + r, where r is 0 or has b's sign, and |r| < |b|
pub record IsDivision (a b q r : ℤ) : Type 0 where
  pub whole : a ≡ (b *ℤ q +ℤ r)
  pub sign : HasSignOf b r
  pub small : unsigned_abs r < unsigned_abs b

-- the floor of z / n; of n = 0 it says nothing
abbrev pub floor_of : ℤ → ℕ → ℤ
floor_of (pos a) n = pos (a / n)
floor_of (negsuc a) n = negsuc (a / n)

-- the floor of a / b; of b = 0 it says nothing
abbrev pub floor_div : ℤ → ℤ → ℤ
floor_div a (pos b) = floor_of a b
floor_div a (negsuc b) = floor_of (neg_ℤ a) (suc b)

-- what the floor leaves
abbrev pub floor_mod : ℤ → ℤ → ℤ
floor_mod a b = a -ℤ b *ℤ floor_div a b

-- just one of the two is negative
abbrev pub signs_differ : ℤ → ℤ → Bool
signs_differ (pos a) (pos b) = false
signs_differ (pos a) (negsuc b) = true
signs_differ (negsuc a) (pos b) = true
signs_differ (negsuc a) (negsuc b) = false

abbrev pub rounded_up : ℕ → ℕ → ℕ
rounded_up quotient rest = if rest == 0 then quotient else quotient + 1

-- both, or the error where the quotient is too wide
abbrev pub divided : ℤ → ℤ → Result (ℤ × ℤ) PyError
divided a b = if wide (floor_div a b) then Err IntTooWide else Ok (floor_div a b, floor_mod a b)
