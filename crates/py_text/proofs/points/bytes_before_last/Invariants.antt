use Rattle.std.proofs.Common.{length, ◌≡◌, ◌≤◌, ◌<◌, ◌+◌, drop, true}
use Rattle.std.specs.Prelude.{slice_index}
use Rattle.py_text.specs.Points as spec
use Rattle.py_text.proofs.points.bytes_before_last.Given as goal

abbrev pub invariant-bytes : goal.invariant-bytes
invariant-bytes l = record {
  inside : l.at ≤ length l.bytes;
  count : spec.starts_in (drop l.at l.bytes) + l.left ≡ l.n;
  start : l.left ≡ 0 → l.at < length l.bytes → spec.is_start (slice_index l.bytes l.at) ≡ true;
}

abbrev pub decreases-bytes : goal.decreases-bytes
decreases-bytes l = l.at
