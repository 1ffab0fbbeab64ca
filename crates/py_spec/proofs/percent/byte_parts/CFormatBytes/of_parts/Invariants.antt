use Rattle.std.proofs.Common.{◌≡◌, take}
use Rattle.py_spec.specs.Percent.ByteParts.{parts_bytes}
use Rattle.py_spec.proofs.percent.byte_parts.CFormatBytes.of_parts.Given as goal

abbrev pub invariant-loop-entry : goal.invariant-loop-entry
invariant-loop-entry l = l.made ≡ parts_bytes (take l.entry-index l.parts)
