use Rattle.re_parse.proofs.PassCodeLemmas.{noted_more}
use Rattle.re_parse.proofs.groups.note_each.Goals as goal

pub loop-conditional-preserved : goal.loop-conditional-preserved
loop-conditional-preserved c =
    noted_more c.args.count c.args.first c.loop-conditional.found c.note-found.result c.args.conditionals.now c.loop-conditional.conditional-index c.conditional-item.result
    c.is_past-wrong.result c.loop-conditional-test.true c.conditional-item.is c.loop-conditional.invariant c.is_past-wrong.ensures c.note-found.ensures
