use Rattle.std.proofs.Common.{◌≡◌, drop}
use Rattle.py_value.specs.HostTable.{has_items}
use Rattle.py_value.proofs.host.table.HostTable.has_items.Given as goal

abbrev pub invariant-loop-row : goal.invariant-loop-row
invariant-loop-row l = (has_items l.handle (drop l.row-index l.row-items) ≡ has_items l.handle l.self) × (l.row-items ≡ l.self)
