use Rattle.std.proofs.Common.{◌∙◌, ap, sym}
use Rattle.std.specs.Option.{option_map}
use Rattle.re_tree.specs.TextView.{text_of}
use Rattle.re_parse.specs.ParserView.{ended_of, last_of}
use Rattle.re_parse.proofs.BranchLemmas.{closes, closes_not}
use Rattle.re_parse.proofs.parser.Parser.close.Goals as goal

pub returns-in_default-made : goal.returns-in_default-made
returns-in_default-made c =
    closes_not c.args.self.groups c.args.self.outer.items c.pop.new.self.items c.in-Some.frame (ended_of c.args.self.inside) (last_of c.args.self.inside) c.in-Some.ensures.items
    (ap (option_map text_of) (sym c.in_default-made.is) ∙ c.in_ok-made.ensures)

pub returns : goal.returns
returns c =
    closes c.args.self.groups c.args.self.outer.items c.pop.new.self.items c.in-Some.frame (ended_of c.args.self.inside) (last_of c.args.self.inside)
    (ended_of c.in_ok-inside.inside) (last_of c.in_ok-inside.inside) (text_of c.in-Some-made.closed) c.in-Some.ensures.items
    (ap (option_map text_of) (sym c.in-Some-made.is) ∙ c.in_ok-made.ensures) c.in_ok-inside.ensures.ended c.in_ok-inside.ensures.last
