use Rattle.std.proofs.Common.{length}
use Rattle.py_spec.proofs.PartLemmas.{PartsLeft}
use Rattle.py_spec.proofs.percent.template.CFormatString.parse.Given as goal

abbrev pub invariant-loop-reader : goal.invariant-loop-reader
invariant-loop-reader l = PartsLeft l.text l.made l.reader

abbrev pub decreases-loop-reader : goal.decreases-loop-reader
decreases-loop-reader l = length l.reader
