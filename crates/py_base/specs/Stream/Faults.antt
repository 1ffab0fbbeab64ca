-- When a call of a source or a sink may answer that it failed.
use Rattle.std.specs.Prelude.{◌≡◌, ℕ, ◌<◌, ◌≤◌, List, length, Result, Ok, OnErr}
use Rattle.py_base.specs.Counts.{one_more}

-- a count that never falls went up, or is the last number of its type
abbrev pub Rose : ℕ → ℕ → Type 0
Rose before now = one_more before ≤ now

-- the count did not fall, and an error came only where it rose
pub record HasCause {T E : Type 0} (before now : ℕ) (result : Result T E) : Type 0 where
  pub later : before ≤ now
  pub failed : OnErr result (Rose before now)

-- taking nothing of a piece that is not empty is a fault too
abbrev pub RoseIfStuck : {E : Type 0} → ℕ → ℕ → Result ℕ E → List ℕ → Type 0
RoseIfStuck before now result piece = result ≡ Ok 0 → 0 < length piece → Rose before now
