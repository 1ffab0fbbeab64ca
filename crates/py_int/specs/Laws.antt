-- Laws of integers.
use Rattle.std.specs.Prelude.{◌≡◌, ◌≢◌, ◌≤◌, ◌↔◌, ◌^◌, ℕ, ℤ, pos, Bool, IsTrue, true, false, All, List, [], ◌∷◌, Some, Ok}
use Rattle.std.specs.List.{concat}
use Rattle.std.specs.Str.Parse.{AllDigits, digits_value}
use Rattle.std.specs.Fmt.{signed_decimal}
use Rattle.py_base.specs.Hash.{int_hash}
use Rattle.py_text.specs.Replacing.{join}
use Rattle.py_int.specs.declared.bytes.ArgByteOrder.{ArgByteOrder}
use Rattle.py_int.specs.Bits.{bit}
use Rattle.py_int.specs.Bytes.{in_order, number_of, bytes_in, holds}
use Rattle.py_int.specs.Divide.{IsDivision, floor_div, floor_mod}
use Rattle.py_int.specs.Literal.{digits, greatest_base, int_of}
use Rattle.py_int.specs.Number.{wide}
use Rattle.py_int.specs.Power.{HaveCommonDivisor, IsInverse}
use Rattle.py_int.specs.Round.{IsNearestMultiple, rounded}

-- the floor of a quotient and what it leaves are the one pair that divides
abbrev pub DivisionIsOnePair : Type 0
DivisionIsOnePair = (a b q r : ℤ) → b ≢ pos 0 →
    IsDivision a b q r ↔ ((q ≡ floor_div a b) × (r ≡ floor_mod a b))

-- there is no inverse exactly where modulus and base have a common divisor past 1
abbrev pub NoInverseIsCommonDivisor : Type 0
NoInverseIsCommonDivisor = (m a : ℤ) → m ≢ pos 0 →
    ((i : ℤ) → ¬ IsInverse m a i) ↔ HaveCommonDivisor m a

-- a rounded integer is the nearest multiple of the power of ten, and the even one of two as near
abbrev pub RoundingIsNearest : Type 0
RoundingIsNearest = (z : ℤ) (d : ℕ) → IsNearestMultiple (10 ^ d) z (rounded z d)

-- the bytes of an integer spell it, in one order and with one way of signs
abbrev pub BytesSpellTheNumber : Type 0
BytesSpellTheNumber = (order : ArgByteOrder) (signed : Bool) (k : ℕ) (z : ℤ) →
    holds signed k z ≡ true → number_of signed (in_order order (bytes_in order k z)) ≡ z

-- what is printed of an integer is read back as the integer, in base 10 and in base 0
abbrev pub ReprReadsBack : Type 0
ReprReadsBack = (z : ℤ) → wide z ≡ false →
    (int_of 10 (signed_decimal z) ≡ Ok z) × (int_of 0 (signed_decimal z) ≡ Ok z)

-- integers that an equality takes for equal have one hash
abbrev pub HaveOneHash : (ℤ → ℤ → Bool) → Type 0
HaveOneHash eq = (a b : ℤ) → IsTrue (eq a b) → int_hash a ≡ int_hash b

-- two integers with the same bits are one
abbrev pub NumbersAreTheirBits : Type 0
NumbersAreTheirBits = (a b : ℤ) → ((k : ℕ) → bit a k ≡ bit b k) → a ≡ b

-- digits of a base, at least one
abbrev pub IsRun : ℕ → List ℕ → Type 0
IsRun base run = (run ≢ []) × AllDigits base run

-- cs is runs of digits joined by single underscores, at least one, and n is the number that all
-- their digits write
pub record AreRuns (base : ℕ) (cs : List ℕ) (n : ℕ) : Type 0 where
  pub runs : List (List ℕ)
  pub some : runs ≢ []
  pub each : All (IsRun base) runs
  pub written : cs ≡ join (95 ∷ []) runs
  pub value : n ≡ digits_value base (concat runs)

-- what is read as digits is just that
abbrev pub DigitsAreRuns : Type 0
DigitsAreRuns = (base n : ℕ) (cs : List ℕ) → base ≤ greatest_base →
    (digits base cs ≡ Some n) ↔ AreRuns base cs n
