-- How many values there are in a value, the measure of the walk that drops it.
use Rattle.std.specs.Prelude.{ℕ, ◌+◌}
use Rattle.py_value.specs.Plain.{Plain, Plains, Entries, none, bool, int, str, bytes, tuple, list, dict, handle, empty, ◌then◌, no_entries, entry}

-- the value itself counts too
abbrev mutual
  pub weight : Plain → ℕ
  weight none = 1
  weight (bool b) = 1
  weight (int z) = 1
  weight (str cs) = 1
  weight (bytes bs) = 1
  weight (tuple vs) = values_weight vs + 1
  weight (list vs) = values_weight vs + 1
  weight (dict es) = entries_weight es + 1
  weight (handle h) = 1

  pub values_weight : Plains → ℕ
  values_weight empty = 0
  values_weight (v then vs) = weight v + values_weight vs

  pub entries_weight : Entries → ℕ
  entries_weight no_entries = 0
  entries_weight (entry k v es) = weight v + entries_weight es
