use Rattle.std.proofs.Common.{◌∙◌, ap, sym}
use Rattle.std.specs.Option.{option_copied}
use Rattle.re_parse.specs.GroupNames.{number_under}
use Rattle.re_parse.proofs.GroupNameLemmas.{found_under}
use Rattle.re_parse.proofs.group_names.number_of.Goals as goal

pub returns-in-None : goal.returns-in-None
returns-in-None c =
    ap option_copied (sym c.in-None.is) ∙ c.get.ensures.value ∙ found_under c.as_str.result.now c.args.numbers.now.entries c.as_str.utf8
    ∙ ap (number_under c.args.numbers.now.entries) c.as_str.ensures.value

pub returns-in-Some : goal.returns-in-Some
returns-in-Some c =
    ap option_copied (sym c.in-Some.is) ∙ c.get.ensures.value ∙ found_under c.as_str.result.now c.args.numbers.now.entries c.as_str.utf8
    ∙ ap (number_under c.args.numbers.now.entries) c.as_str.ensures.value
