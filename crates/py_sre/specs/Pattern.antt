-- What contracts see of a pattern.
use Rattle.std.specs.Prelude.{ℕ, Bool, true, false, List, Option}
use Rattle.sre_code.specs.Checked.{Code}
use Rattle.py_value.specs.Plain.{Plain, none, str, bytes}
use Rattle.py_sre.specs.Names.{Entry}
use Rattle.py_sre.specs.declared.pattern.PatternSource.{PatternSource}
use Rattle.py_sre.specs.declared.pattern.PatternSource.TheVariants.{None as NoSource, Str, Bytes}

-- what a pattern was made from, as a value: None, a text or bytes
abbrev pub source_of : PatternSource → Plain
source_of NoSource = none
source_of (Str cs) = str cs
source_of (Bytes bs) = bytes bs

-- a pattern is over bytes exactly where it was made from bytes
abbrev pub is_over_bytes : PatternSource → Bool
is_over_bytes (Bytes bs) = true
is_over_bytes _ = false

-- what it was made from, its flags, its checked code, the numbers of names, and the names of groups
pub record PlainPattern : Type 0 where
  pub source : Plain
  pub is_bytes : Bool
  pub flags : ℕ
  pub code : Code
  pub groupindex : List Entry
  pub indexgroup : List (Option (List ℕ))
