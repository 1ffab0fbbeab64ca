use Rattle.std.proofs.Common.{length, ◌≡◌, ◌≤◌, ◌+◌, drop}
use Rattle.py_text.specs.Points as spec
use Rattle.py_text.proofs.points.walk_back.Given as goal

abbrev pub invariant-walk : goal.invariant-walk
invariant-walk l = record {
  inside : l.place ≤ length l.bytes;
  count : spec.starts_in (drop l.place l.bytes) + l.more ≡ spec.starts_in (drop l.at l.bytes) + l.left;
  end : l.more ≡ 0 → (l.left ≡ 0) × (l.place ≡ l.at);
}

abbrev pub decreases-walk : goal.decreases-walk
decreases-walk l = l.place
