use Rattle.std.proofs.Common.{◌<◌, ◌^◌, arith}
use Rattle.sre_commands.proofs.DecimalLemmas.{narrowed_none}
use Rattle.sre_commands.proofs.tokens.number.word_of.Goals as goal

pub returns-clause-none : goal.returns-clause-none
returns-clause-none c =
    let fits : c.in_ok-number_of.field-0 < 2 ^ 64 = omega arith in
    rw c.ok.ensures.value (narrowed_none c.args.bytes.now c.try_from.result c.in_ok-number_of.field-0 fits c.in_ok-number_of.ensures.found c.try_from.ensures)
