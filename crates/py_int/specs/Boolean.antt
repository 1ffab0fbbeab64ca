-- Bools as integers and texts.
use Rattle.std.specs.Prelude.{ℕ, ℤ, pos, Bool, true, false, List, codes}

abbrev pub int_of_bool : Bool → ℤ
int_of_bool true = pos 1
int_of_bool false = pos 0

abbrev pub repr_of_bool : Bool → List ℕ
repr_of_bool true = codes "True"
repr_of_bool false = codes "False"
