use Rattle.std.proofs.Common.{ap, ◌+◌}
use Rattle.re_tree.specs.Machine.{frame}
use Rattle.re_parse.specs.ParserView.{ended_of, last_of}
use Rattle.re_parse.specs.TokenView.{opening_of}
use Rattle.re_parse.proofs.BranchLemmas.{opens_frame}
use Rattle.re_parse.proofs.parser.Parser.open.Goals as goal

pub returns : goal.returns
returns c =
    opens_frame c.args.self.groups (c.args.self.groups + c.groups_begun.result) (opening_of c.args.opening) c.args.self.outer.items c.push.new.self.items _ _
    (ended_of c.new.result) (last_of c.new.result)
    (ap (λ n. c.args.self.groups + n) c.groups_begun.ensures.value) c.in_ok-push.ensures.items
    (ap (λ n. frame c.args.at (opening_of c.args.opening) n (ended_of c.args.self.inside) (last_of c.args.self.inside)) c.in-Some.ensures.1)
    c.new.ensures.ended c.new.ensures.last
