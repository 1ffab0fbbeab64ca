use Rattle.std.proofs.Common.{◌∙◌, ap}
use Rattle.re_parse.specs.GroupNames.{number_in}
use Rattle.re_parse.proofs.group_names.GroupNames.number.Goals as goal

pub returns : goal.returns
returns c = c.number_of.ensures ∙ c.self.invariant c.args.name.now ∙ ap (λ l. number_in l c.args.name.now) c.self.view_is
