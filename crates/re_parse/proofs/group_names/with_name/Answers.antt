use Rattle.std.proofs.Common.{◌∙◌, sym}
use Rattle.re_parse.proofs.GroupNameLemmas.{known_also}
use Rattle.re_parse.proofs.group_names.with_name.Goals as goal

pub returns-in-Some : goal.returns-in-Some
returns-in-Some c = known_also c.args.numbers.entries c.args.name.now c.in-Some.field-0 c.args.number (sym c.number_of.ensures ∙ c.in-Some.is)
