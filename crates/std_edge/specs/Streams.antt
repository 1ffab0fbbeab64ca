-- What is seen of a stream over a reader or a writer, and how its count of faults changes.
use Rattle.std.specs.Prelude.{ℕ, ◌==◌, ◌&&◌, not, if◌then◌else◌, List, length, Option, Result, Ok, Err}
use Rattle.py_base.specs.Counts.{one_more}

-- the bytes that are left or that were written, where they are told, and how often a call failed
pub record Stream : Type 0 where
  pub bytes : Option (List ℕ)
  pub faults : ℕ

-- a read that fails is counted, and no other
abbrev pub faults_after_read : {E : Type 0} → ℕ → Result ℕ E → ℕ
faults_after_read faults (Ok count) = faults
faults_after_read faults (Err e) = one_more faults

-- a write that fails is counted, and one that takes nothing of a piece
abbrev pub faults_after_write : {E : Type 0} → ℕ → List ℕ → Result ℕ E → ℕ
faults_after_write faults piece (Ok count) =
    if count == 0 && not (length piece == 0) then one_more faults else faults
faults_after_write faults piece (Err e) = one_more faults
