use Rattle.re_parse.proofs.NameLemmas.{NamePassed}
use Rattle.re_parse.proofs.reading.names.up_to.Given as goal

abbrev pub invariant-loop-i : goal.invariant-loop-i
invariant-loop-i l = NamePassed l.end l.text l.i
