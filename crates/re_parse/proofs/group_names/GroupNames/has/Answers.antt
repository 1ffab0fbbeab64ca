use Rattle.std.proofs.Common.{◌∙◌, ap, sym, is_some}
use Rattle.re_parse.proofs.GroupNameLemmas.{has_is}
use Rattle.re_parse.proofs.group_names.GroupNames.has.Goals as goal

pub returns-in-None : goal.returns-in-None
returns-in-None c = ap is_some (sym c.in-None.is ∙ c.number.ensures) ∙ has_is c.args.self.now c.args.name.now

pub returns-in-Some : goal.returns-in-Some
returns-in-Some c = ap is_some (sym c.in-Some.is ∙ c.number.ensures) ∙ has_is c.args.self.now c.args.name.now
