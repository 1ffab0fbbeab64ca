-- What the readers of a code know, and what they answer.
use Rattle.std.specs.Prelude.{ℕ, Bool, true, false, List, Result, Err, refl}
use Rattle.std.specs.Coded.{Coded, code_by, coded×, coded_ℕ}
use Rattle.py_base.specs.Reading.{Read as ReadOr, MeetsUnless}
use Rattle.sre_code.specs.declared.error.CodeError.{CodeError}
use Rattle.sre_code.specs.declared.error.CodeError.TheVariants.{NoMemory, InvalidCode}
use Rattle.sre_code.specs.PlainTree.{PlainTree}

abbrev pub Read : Type 0 → Type 0
Read A = ReadOr CodeError A

abbrev pub invalid : {A : Type 0} → Result A CodeError
invalid = Err InvalidCode

-- how a body is read, which the readers of nodes are given
abbrev pub Body : Type 0
Body = List ℕ → Read PlainTree

abbrev pub no_memory : CodeError → Bool
no_memory NoMemory = true
no_memory InvalidCode = false

-- the result is the one that is wanted, unless memory ran out
abbrev pub Meets : {A : Type 0} → Result A CodeError → Result A CodeError → Type 0
Meets want result = MeetsUnless no_memory want result

-- how many groups a code has, and how many bodies may be inside one another from here on
pub record Limits : Type 0 where
  pub groups : ℕ
  pub levels : ℕ

abbrev pub limits_code : Coded Limits
limits_code =
    code_by (ℕ × ℕ) (coded× coded_ℕ coded_ℕ) (λ l. (l.groups, l.levels))
    (λ p. record { groups = p.0; levels = p.1 }) (λ _. refl)
