use Rattle.std.proofs.Common.{◌≡◌, ◌∙◌, ap, sym, rules, length, vec_len}
use Rattle.std.proofs.lemmas.Bool.{eqb-false}
use Rattle.re_parse.specs.PassView.{pass_in}
use Rattle.re_parse.proofs.PassCodeLemmas.{still_open}
use Rattle.re_parse.proofs.pass.Pass.finish.Goals as goal

pub returns-then-not-is_empty : goal.returns-then-not-is_empty
returns-then-not-is_empty c =
    let n : vec_len c.args.self.now.outer ≡ length c.args.self.now.outer.items = search rules in
    still_open (pass_in c.args.self.now) c.args.self.now.outer.items
    (λ e. eqb-false (vec_len c.args.self.now.outer) 0 (sym c.if-not-is_empty.ensures) (n ∙ ap length e))
