use Rattle.std.proofs.Common.{◌≡◌, ◌-◌, ◌++◌}
use Rattle.py_int.specs.Bytes.{low_bytes}
use Rattle.py_int.proofs.bytes.low_bytes_of.Given as goal

abbrev pub invariant-loop-place : goal.invariant-loop-place
invariant-loop-place l = low_bytes l.length l.fn.value ≡ l.bytes.items ++ low_bytes (l.length - l.place) l.rest
