-- What the lines of a table add to the counts of a report.
use Rattle.std.specs.Prelude.{◌≡◌, ◌≢◌, ◌⊎◌, ℕ, List, [], ◌∷◌, ◌++◌, All, true, codes, Result}
use Rattle.py_base.specs.Counts.{one_more}
use Rattle.call_tables.specs.declared.fault.Fault.{Fault}
use Rattle.call_tables.specs.declared.report.Tally.{Tally}
use Rattle.call_tables.specs.declared.token.Token.{Token}
use Rattle.call_tables.specs.Token.{spaced}
use Rattle.call_tables.specs.Results.{is_of_call, outcome_text}

-- a name is one word: it is not empty, and has no space
abbrev pub IsName : List ℕ → Type 0
IsName name = (name ≢ []) × All (λ b. b ≢ 32) name

-- The line is a call and its answer: the answer is the call's own, and what the call of this name may give on these arguments.
pub record IsRight (may_give : List ℕ → List Token → Result (List Token) Fault → Type 0) (line : List ℕ) : Type 0 where
  pub name : List ℕ
  pub arguments : List Token
  pub outcome : Result (List Token) Fault
  pub word : IsName name
  pub own : is_of_call outcome ≡ true
  pub given : may_give name arguments outcome
  pub written : line ≡ (name ++ spaced arguments) ++ (codes " =" ++ outcome_text outcome)

-- one call more, and one more that agrees only where the line is right
abbrev pub AddsLine : (List ℕ → List Token → Result (List Token) Fault → Type 0) → List ℕ → Tally → Tally → Type 0
AddsLine may_give line old new =
    (new.calls ≡ one_more old.calls)
    × ((IsRight may_give line × (new.agreeing ≡ one_more old.agreeing)) ⊎ (new.agreeing ≡ old.agreeing))

-- the counts after lines, each of them added once
abbrev pub AddsLines : (List ℕ → List Token → Result (List Token) Fault → Type 0) → List (List ℕ) → Tally → Tally → Type 0
AddsLines may_give [] old new = new ≡ old
AddsLines may_give (line ∷ lines) old new =
    (mid : Tally) × (AddsLine may_give line old mid × AddsLines may_give lines mid new)
