use Rattle.std.proofs.Common.{refl, ap}
use Rattle.std.specs.Prelude.{Some}
use Rattle.re_parse.specs.Groups.{conditionals_in}
use Rattle.re_parse.specs.PassView.{pass_in}
use Rattle.re_parse.specs.TokenView.{opening_of}
use Rattle.re_parse.proofs.PassCodeLemmas.{opens_as}
use Rattle.re_parse.proofs.pass.Pass.open.Goals as goal

pub returns : goal.returns
returns c =
    let made = c.in_ok-groups.groups in
    ap Some (opens_as (pass_in c.args.self) c.args.at c.in-Some.number made.count (opening_of c.args.opening) made.names (conditionals_in made.conditionals.items)
    c.push.new.self.items c.args.self.outer.items c.construct_of.result c.new.result c.note_opening-first.result
    c.in-Some.ensures.1 c.in_ok-groups.ensures.count c.in_ok-groups.ensures.names c.in_ok-groups.ensures.conditionals
    c.in_ok-push.ensures.items refl c.construct_of.ensures c.new.ensures c.note_opening-first.ensures)
