use Rattle.std.proofs.Common.{Err, ap}
use Rattle.sre_commands.proofs.program.reply_to.Goals as goal

pub returns-clause-replies : goal.returns-clause-replies
returns-clause-replies g c =
    λ t spells. c.in-Err-InvalidCode.ensures.invalid (ap Err c.in-Err-InvalidCode.field-0-is) t (rw c.deref.ensures.value spells)
