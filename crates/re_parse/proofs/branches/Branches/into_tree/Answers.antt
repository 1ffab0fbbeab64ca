use Rattle.std.proofs.Common.{◌≡◌, ◌∙◌, ap, sym, rules, length, vec_len}
use Rattle.std.proofs.lemmas.Bool.{eqb-false}
use Rattle.re_tree.specs.PlainText.{alternation}
use Rattle.re_tree.specs.TextView.{texts_of}
use Rattle.re_tree.specs.Machine.{snoc}
use Rattle.re_parse.specs.ParserView.{last_of}
use Rattle.re_parse.proofs.BranchLemmas.{regex_more}
use Rattle.re_parse.proofs.branches.Branches.into_tree.Goals as goal

pub returns : goal.returns
returns c =
    let n : vec_len c.args.self.ended ≡ length c.args.self.ended.items = search rules in
    ap alternation (c.from_vec.ensures ∙ c.in_ok-push.ensures ∙ ap (snoc (texts_of c.args.self.ended.items)) c.branch-last.ensures)
    ∙ regex_more c.args.self.ended.items (last_of c.args.self) (λ e. eqb-false (vec_len c.args.self.ended) 0 (sym c.if-is_empty.ensures) (n ∙ ap length e))
