use Rattle.std.proofs.Common.{◌∙◌, sym}
use Rattle.re_parse.specs.PassView.{pass_in}
use Rattle.re_parse.proofs.PassCodeLemmas.{closes, closes_not}
use Rattle.re_parse.proofs.pass.Pass.close.Goals as goal

pub returns-in_default-shape : goal.returns-in_default-shape
returns-in_default-shape c =
    closes_not (pass_in c.args.self) c.args.self.outer.items c.pop.new.self.items c.in-Some.frame c.in-Some.ensures.items
    (sym c.in_default-shape.is ∙ c.in_ok-closed.ensures.shape)

pub returns : goal.returns
returns c =
    closes (pass_in c.args.self) c.args.self.outer.items c.pop.new.self.items c.in-Some.frame c.in-Some-shape.shape c.in_ok-body.body c.in_ok-ended.ended c.in_ok-closed.closed.first
    c.in-Some.ensures.items (sym c.in-Some-shape.is ∙ c.in_ok-closed.ensures.shape) c.in_ok-body.ensures c.in_ok-ended.ensures c.in_ok-closed.ensures.first
