-- What the loop over the steps of an iterator keeps.
use Rattle.std.proofs.Common.{◌++◌, List, Result, Ok, Err}
use Rattle.call_tables.specs.declared.fault.Fault.{Fault}
use Rattle.call_tables.specs.declared.token.Token.{Token}

-- what was given so far, and then the rest
abbrev pub after_given : List Token → Result (List Token) Fault → Result (List Token) Fault
after_given given (Ok ts) = Ok (given ++ ts)
after_given given (Err e) = Err e
