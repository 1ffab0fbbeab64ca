use Rattle.std.proofs.Common.{◌≡◌, ◌∙◌, ap, sym, rules, length, vec_len}
use Rattle.std.proofs.lemmas.Bool.{eqb-false}
use Rattle.re_parse.specs.ParserView.{ended_of, last_of}
use Rattle.re_parse.proofs.BranchLemmas.{still_open}
use Rattle.re_parse.proofs.parser.Parser.finish.Goals as goal

pub returns-then-not-is_empty : goal.returns-then-not-is_empty
returns-then-not-is_empty c =
    let n : vec_len c.args.self.outer ≡ length c.args.self.outer.items = search rules in
    still_open c.args.self.groups c.args.self.outer.items (ended_of c.args.self.inside) (last_of c.args.self.inside)
    (λ e. eqb-false (vec_len c.args.self.outer) 0 (sym c.if-not-is_empty.ensures) (n ∙ ap length e))
