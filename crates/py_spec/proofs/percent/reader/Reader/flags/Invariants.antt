use Rattle.std.proofs.Common.{◌≡◌, length}
use Rattle.py_spec.specs.Percent.Flags.{flag, read_flags}
use Rattle.py_spec.proofs.percent.reader.Reader.flags.Given as goal

abbrev pub invariant-flags : goal.invariant-flags
invariant-flags l = read_flags (flag 0) l.fn.self ≡ read_flags l.flags l.self

abbrev pub decreases-flags : goal.decreases-flags
decreases-flags l = length l.self
