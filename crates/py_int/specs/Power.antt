-- Powers, and powers under a modulus.
use Rattle.std.specs.Prelude.{◌≡◌, ◌≢◌, ◌↔◌, ℕ, zero, suc, ℤ, pos, ◌*ℤ◌, ◌<ℤ◌, ◌≤ℤ◌, ◌<◌, unsigned_abs, Result, Ok, Err, IfOk, IfErr}
use Rattle.std.specs.Int.{◌∣◌}
use Rattle.py_base.specs.declared.error.PyError.{PyError}
use Rattle.py_base.specs.declared.error.PyError.TheVariants.{ModulusZero, NotInvertible}
use Rattle.py_int.specs.Divide.{floor_mod}
use Rattle.py_int.specs.Number.{Carries}

-- the product of k times z
abbrev pub power : ℤ → ℕ → ℤ
power z zero = pos 1
power z (suc k) = z *ℤ power z k

-- where e is not negative, r is z to the power e, or the error where that is too wide
abbrev pub IsPower : ℤ → ℤ → Result ℤ PyError → Type 0
IsPower z e r = pos 0 ≤ℤ e → Carries (power z (unsigned_abs e)) r

-- x and y leave the same remainder by m
abbrev pub AreCongruent : ℤ → ℤ → ℤ → Type 0
AreCongruent m x y = floor_mod x m ≡ floor_mod y m

-- i times z is congruent to 1
abbrev pub IsInverse : ℤ → ℤ → ℤ → Type 0
IsInverse m z i = AreCongruent m (z *ℤ i) (pos 1)

-- some number past 1 divides both
abbrev pub HaveCommonDivisor : ℤ → ℤ → Type 0
HaveCommonDivisor a b = (d : ℕ) × (1 < d) × (d ∣ unsigned_abs a) × (d ∣ unsigned_abs b)

-- r is the remainder by m of the k-th power of an inverse of z
abbrev pub IsInversePower : ℤ → ℤ → ℕ → ℤ → Type 0
IsInversePower m z k r = (i : ℤ) × IsInverse m z i × (r ≡ floor_mod (power i k) m)

-- r is a to the power e by m: the one integer that is congruent to it, is 0 or has m's sign, and
-- is less than m without signs
pub record IsModularPower (a e m : ℤ) (r : Result ℤ PyError) : Type 0 where
  pub by_zero : m ≡ pos 0 → r ≡ Err ModulusZero
  pub value : m ≢ pos 0 → pos 0 ≤ℤ e → r ≡ Ok (floor_mod (power a (unsigned_abs e)) m)
  pub inverse : m ≢ pos 0 → e <ℤ pos 0 → IfOk r (λ p. IsInversePower m a (unsigned_abs e) p)
  pub none : m ≢ pos 0 → e <ℤ pos 0 → (r ≡ Err NotInvertible) ↔ ((i : ℤ) → ¬ IsInverse m a i)
  pub only : m ≢ pos 0 → IfErr r (λ x. x ≡ NotInvertible)
