use Rattle.std.proofs.Common.{◌≡◌, drop}
use Rattle.py_value.specs.HostTable.{first_answer}
use Rattle.py_value.specs.ValueView.{plain_of}
use Rattle.py_value.proofs.host.table.HostTable.answer.Given as goal

abbrev pub invariant-loop-row : goal.invariant-loop-row
invariant-loop-row l = (first_answer l.handle l.method (plain_of l.key) (drop l.row-index l.row-items) ≡ first_answer l.handle l.method (plain_of l.key) l.self) × (l.row-items ≡ l.self)
