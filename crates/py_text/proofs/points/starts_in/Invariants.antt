use Rattle.std.proofs.Common.{◌≡◌, ◌+◌, length}
use Rattle.py_text.specs.Points as spec
use Rattle.py_text.proofs.points.starts_in.Given as goal

abbrev pub invariant-walk : goal.invariant-walk
invariant-walk l = l.count + spec.starts_in l.rest ≡ spec.starts_in l.bytes

abbrev pub decreases-walk : goal.decreases-walk
decreases-walk l = length l.rest
