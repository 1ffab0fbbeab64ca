-- How a run ends, and the status of each ending.
use Rattle.std.specs.Prelude.{◌≡◌, ℕ, Bool, true, false, ◌⊎◌}
use Rattle.sre_commands.specs.declared.ending.Ending.{Ending}
use Rattle.sre_commands.specs.declared.ending.Ending.TheVariants.{Answered, InvalidCode, NoCommand, NoRequest, SourceFailed, SinkFailed, NoMemory, TooLong}

abbrev pub status_of : Ending → ℕ
status_of Answered = 0
status_of InvalidCode = 1
status_of NoCommand = 2
status_of NoRequest = 3
status_of SourceFailed = 4
status_of SinkFailed = 5
status_of NoMemory = 6
status_of TooLong = 7

-- the status of some ending
abbrev pub IsStatus : ℕ → Type 0
IsStatus status = (ending : Ending) × (status ≡ status_of ending)

-- the status of one of two endings
abbrev pub IsEither : ℕ → Ending → Ending → Type 0
IsEither status a b = (status ≡ status_of a) ⊎ (status ≡ status_of b)

-- whether the sink was called
abbrev pub writes : Ending → Bool
writes Answered = true
writes InvalidCode = true
writes NoCommand = false
writes NoRequest = false
writes SourceFailed = false
writes SinkFailed = true
writes NoMemory = false
writes TooLong = false
