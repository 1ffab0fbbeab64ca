use Rattle.std.proofs.Common.{◌≡◌, ◌∙◌, ap, sym, subst}
use Rattle.std.specs.Prelude.{Some, None, IfOk}
use Rattle.std.specs.Option.{option_map}
use Rattle.re_tree.specs.TextView.{text_of}
use Rattle.re_parse.specs.ParserView.{state_of}
use Rattle.re_parse.proofs.WalkLemmas.{tree_read}
use Rattle.re_parse.proofs.parsing.read.Goals as goal

pub returns-in-None : goal.returns-in-None
returns-in-None c =
    tree_read c.args.flags c.args.text.now (state_of c.new.result) None c.new.ensures
    (sym (ap (option_map state_of) c.in-None.is) ∙ c.in_ok-after_tokens.ensures)

pub returns-in-Some : goal.returns-in-Some
returns-in-Some c =
    subst (λ r. IfOk c.finish.result (λ tree. option_map text_of tree ≡ r))
    (tree_read c.args.flags c.args.text.now (state_of c.new.result) (Some (state_of c.in-Some.parser)) c.new.ensures
    (sym (ap (option_map state_of) c.in-Some.is) ∙ c.in_ok-after_tokens.ensures))
    c.finish.ensures
