use Rattle.std.proofs.Common.{◌-◌, drop, length}
use Rattle.py_str.specs.Passing.{IsPassed}
use Rattle.py_value.specs.Printing.{is_kept}
use Rattle.py_value.proofs.printing.escapes.kept.Given as goal

abbrev pub invariant-bytes : goal.invariant-bytes
invariant-bytes l = IsPassed is_kept l.text (drop l.at l.text) l.at

abbrev pub decreases-bytes : goal.decreases-bytes
decreases-bytes l = length l.bytes - l.at
