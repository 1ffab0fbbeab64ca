use Rattle.re_parse.proofs.EndedGroupLemmas.{numbers_pushed}
use Rattle.re_parse.proofs.ended_groups.EndedGroups.push.Goals as goal

pub invariant_of-result : goal.invariant_of-result
invariant_of-result c =
    rw c.in_ok-push.ensures.items (numbers_pushed c.self.inside.ended.items c.in_ok-ended.ended.items c.self.inside.order.items c.args.number c.self.invariant c.in_ok-ended.ensures)
