use Rattle.std.proofs.Common.{◌∙◌, ap}
use Rattle.re_parse.specs.GroupNames.{names_in}
use Rattle.re_parse.proofs.GroupNameLemmas.{names_push, pushed_first}
use Rattle.re_parse.proofs.group_names.GroupNames.push.Goals as goal

pub invariant_of-result : goal.invariant_of-result
invariant_of-result c =
    rw (ap names_in c.in_ok-push.ensures.items ∙ names_push c.self.inside.order.items _)
    (pushed_first c.self.inside.numbers.entries c.in_ok-numbers.numbers.entries (names_in c.self.inside.order.items) c.args.name c.args.number c.self.invariant c.in_ok-numbers.ensures)
