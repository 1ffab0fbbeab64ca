use Rattle.std.proofs.Common.{◌≡◌, take}
use Rattle.py_text.specs.Points as spec
use Rattle.py_text.proofs.points.starts_in_block.Given as goal

abbrev pub invariant-loop-byte : goal.invariant-loop-byte
invariant-loop-byte l = l.count ≡ spec.starts_in (take l.byte-index l.block)
