-- What each table may give.
use Rattle.std.specs.Prelude.{ℕ, List, Result}
use Rattle.call_tables.specs.declared.fault.Fault.{Fault}
use Rattle.call_tables.specs.declared.table.Table.{Table}
use Rattle.call_tables.specs.declared.table.Table.TheVariants.{Searches, Pieces, Slices, Numbers, Forms, Values}
use Rattle.call_tables.specs.declared.token.Token.{Token}
use Rattle.call_tables.specs.Calls.Searches.{searched}
use Rattle.call_tables.specs.Results.{Answers}

-- of the table `texts` the answer by the definitions, unless memory ran out; of the others nothing is said
abbrev pub may_give : Table → List ℕ → List Token → Result (List Token) Fault → Type 0
may_give Searches name arguments outcome = Answers (searched name arguments) outcome
may_give Pieces name arguments outcome = Unit {0}
may_give Slices name arguments outcome = Unit {0}
may_give Numbers name arguments outcome = Unit {0}
may_give Forms name arguments outcome = Unit {0}
may_give Values name arguments outcome = Unit {0}
