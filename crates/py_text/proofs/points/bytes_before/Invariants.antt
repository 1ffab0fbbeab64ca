use Rattle.std.proofs.Common.{length, ◌-◌, ◌≡◌, ◌≤◌, ◌+◌, take}
use Rattle.py_text.specs.Points as spec
use Rattle.py_text.proofs.points.bytes_before.Given as goal

abbrev pub invariant-bytes : goal.invariant-bytes
invariant-bytes l = record { inside : l.at ≤ length l.bytes; count : spec.starts_in (take l.at l.bytes) + l.left ≡ l.n }

abbrev pub decreases-bytes : goal.decreases-bytes
decreases-bytes l = length l.bytes - l.at
