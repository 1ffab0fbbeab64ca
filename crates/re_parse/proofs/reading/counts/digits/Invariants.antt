use Rattle.re_parse.proofs.DigitLemmas.{DigitsPassed}
use Rattle.re_parse.proofs.reading.counts.digits.Given as goal

abbrev pub invariant-loop-i : goal.invariant-loop-i
invariant-loop-i l = DigitsPassed l.text l.i
