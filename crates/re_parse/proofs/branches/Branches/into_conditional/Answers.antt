use Rattle.std.proofs.Common.{◌≡◌, ◌∙◌, ap, sym, rules, length, vec_len}
use Rattle.std.proofs.lemmas.Bool.{eqb-false}
use Rattle.re_tree.specs.TextView.{group_of}
use Rattle.re_parse.specs.ParserView.{last_of}
use Rattle.re_parse.proofs.BranchLemmas.{more_branches}
use Rattle.re_parse.proofs.branches.Branches.into_conditional.Goals as goal

pub returns-then-not-is_empty : goal.returns-then-not-is_empty
returns-then-not-is_empty c =
    let n : vec_len c.pop.new.self ≡ length c.pop.new.self.items = search rules in
    more_branches (group_of c.args.id) c.args.at c.args.self.ended.items c.pop.new.self.items c.in-Some.first (last_of c.args.self) c.in-Some.ensures.items
    (λ e. eqb-false (vec_len c.pop.new.self) 0 (sym c.if-not-is_empty.ensures) (n ∙ ap length e))
