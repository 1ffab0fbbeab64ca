use Rattle.std.proofs.Common.{◌∙◌, ap, sym}
use Rattle.std.specs.Option.{option_map}
use Rattle.re_tree.specs.TextView.{text_of}
use Rattle.re_tree.proofs.TextLemmas.{is_read}
use Rattle.re_parse.proofs.AnswerLemmas.{answered_has_a_tree}
use Rattle.re_parse.proofs.parsing.parse.Goals as goal

pub returns-in-Some-clause-tree : goal.returns-in-Some-clause-tree
returns-in-Some-clause-tree c = is_read c.args.text.now c.args.flags (text_of c.in-Some.tree) (sym c.in_ok-tree-in-Ok.ensures ∙ ap (option_map text_of) c.in-Some.is)

pub unreachable-requires : goal.unreachable-requires
unreachable-requires c = answered_has_a_tree c.args.flags c.args.text.now c.in-Ok.ensures (sym c.in_ok-tree-in-Ok.ensures ∙ ap (option_map text_of) c.in-None.is)
