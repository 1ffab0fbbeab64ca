use Rattle.std.proofs.Common.{length, ◌-◌, ◌≡◌, ◌≤◌, ◌+◌, take}
use Rattle.py_text.specs.Points as spec
use Rattle.py_text.proofs.points.walk_on.Given as goal

abbrev pub invariant-walk : goal.invariant-walk
invariant-walk l = record { inside : l.place ≤ length l.bytes; count : spec.starts_in (take l.place l.bytes) + l.more ≡ spec.starts_in (take l.at l.bytes) + l.left }

abbrev pub decreases-walk : goal.decreases-walk
decreases-walk l = length l.bytes - l.place
