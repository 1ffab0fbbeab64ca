-- What is answered of a pattern: its tree, or the one error that it has.
use Rattle.std.specs.Prelude.{ℕ, Bool, true, false, nat_lt, List, length, Some, None, Result, Ok, Err, if◌then◌else◌}
use Rattle.py_base.specs.Reading.{MeetsUnless}
use Rattle.re_tree.specs.declared.fault.Fault.{Fault}
use Rattle.re_tree.specs.declared.fault.FaultKind.{FaultKind}
use Rattle.re_tree.specs.declared.fault.FaultKind.TheVariants.{TooDeep, TooManyGroups, BadName, BadCount, BadReference, NotFixedWidth}
use Rattle.re_tree.specs.Faults.{Diagnosis, diagnosis_of}
use Rattle.re_tree.specs.Grammar.{Flags}
use Rattle.re_tree.specs.Machine.{read_tree}
use Rattle.re_parse.specs.declared.error.TheConstants.{MAX_CHARACTERS}
use Rattle.re_parse.specs.declared.error.TextError.{TextError}
use Rattle.re_parse.specs.declared.error.TextError.TheVariants.{NoMemory, TooLong, NotInGrammar, TooDeep as TooDeepAt, TooManyGroups as TooManyGroupsAt, BadName as BadNameAt, BadCount as BadCountAt, BadReference as BadReferenceAt, NotFixedWidth as NotFixedWidthAt}

-- the error of a fault of this kind at this place
abbrev pub error_at : ℕ → FaultKind → TextError
error_at at TooDeep = TooDeepAt at
error_at at TooManyGroups = TooManyGroupsAt at
error_at at BadName = BadNameAt at
error_at at BadCount = BadCountAt at
error_at at BadReference = BadReferenceAt at
error_at at NotFixedWidth = NotFixedWidthAt at

abbrev pub error_of : Fault → TextError
error_of f = error_at f.at f.kind

-- what is answered where this is found in a pattern, without its tree
abbrev pub told : Diagnosis → Result (Unit {0}) TextError
told None = Err NotInGrammar
told (Some None) = Ok tt
told (Some (Some f)) = Err (error_of f)

-- what is answered of a pattern, without its tree: that it is too long, or not in the grammar, or
-- its first fault
abbrev pub answer_of : Flags → List ℕ → Result (Unit {0}) TextError
answer_of flags text =
    if nat_lt MAX_CHARACTERS (length text) then Err TooLong
    else told (diagnosis_of (read_tree flags text))

abbrev pub no_memory : TextError → Bool
no_memory NoMemory = true
no_memory _ = false

-- the result is the one that is wanted, unless memory ran out
abbrev pub Meets : {A : Type 0} → Result A TextError → Result A TextError → Type 0
Meets want result = MeetsUnless no_memory want result

-- a result without its value
abbrev pub emptied : {A : Type 0} → Result A TextError → Result (Unit {0}) TextError
emptied (Ok x) = Ok tt
emptied (Err e) = Err e
