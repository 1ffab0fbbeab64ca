use Rattle.std.proofs.Common.{◌∙◌, ap, get_or, false}
use Rattle.re_tree.specs.Faults.{has_number}
use Rattle.re_parse.proofs.ended_groups.EndedGroups.has_written.Goals as goal

pub returns : goal.returns
returns c =
    c.is_true_at.ensures ∙ ap (λ l. get_or l c.args.number.now false) c.deref.ensures.value ∙ c.self.invariant c.args.number.now ∙ ap (has_number c.args.number.now) c.self.view_is
