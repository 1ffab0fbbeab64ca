use Rattle.std.proofs.Common.{◌∙◌, ap, sym, unwrap_or}
use Rattle.re_parse.proofs.GroupNameLemmas.{find_is}
use Rattle.re_parse.proofs.group_names.GroupNames.find.Goals as goal

pub returns-in-None : goal.returns-in-None
returns-in-None c = ap (λ o. unwrap_or o 0) (sym c.in-None.is ∙ c.number.ensures) ∙ find_is c.args.self.now c.args.name.now

pub returns-in-Some : goal.returns-in-Some
returns-in-Some c = ap (λ o. unwrap_or o 0) (sym c.in-Some.is ∙ c.number.ensures) ∙ find_is c.args.self.now c.args.name.now
