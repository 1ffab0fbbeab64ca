use Rattle.std.proofs.Common.{sym, arith, false}
use Rattle.std.proofs.lemmas.List.{get_or_past}
use Rattle.re_parse.proofs.ended_groups.is_true_at.Goals as goal

pub returns-in-None : goal.returns-in-None
returns-in-None c = sym (get_or_past c.args.ended.now c.args.number.now false (omega (arith, c.in-None.ensures)))
