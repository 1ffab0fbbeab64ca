-- What a reader of a request answers: out of memory, or exactly what its definition gives.
use Rattle.std.specs.Prelude.{Bool, true, false, Result, Err}
use Rattle.py_base.specs.Reading.{Read as ReadOr, MeetsUnless}
use Rattle.sre_commands.specs.declared.error.ParseError.{ParseError}
use Rattle.sre_commands.specs.declared.error.ParseError.TheVariants.{NoMemory, NoRequest}

abbrev pub Read : Type 0 → Type 0
Read A = ReadOr ParseError A

abbrev pub no_request : {A : Type 0} → Result A ParseError
no_request = Err NoRequest

abbrev pub no_memory : ParseError → Bool
no_memory NoMemory = true
no_memory NoRequest = false

abbrev pub Meets : {A : Type 0} → Result A ParseError → Result A ParseError → Type 0
Meets want result = MeetsUnless no_memory want result
