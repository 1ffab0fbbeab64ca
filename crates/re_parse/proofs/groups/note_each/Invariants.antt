use Rattle.re_parse.proofs.PassCodeLemmas.{Noted}
use Rattle.re_parse.proofs.groups.note_each.Given as goal

abbrev pub invariant-loop-conditional : goal.invariant-loop-conditional
invariant-loop-conditional l = Noted l.count l.fn.first l.conditionals l.conditional-index l.found
