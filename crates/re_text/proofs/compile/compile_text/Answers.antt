use Rattle.re_tree.specs.TextView.{text_of}
use Rattle.re_text.proofs.CompiledLemmas.{compiled}
use Rattle.re_text.proofs.compile.compile_text.Goals as goal

pub returns-clause-code : goal.returns-clause-code
returns-clause-code c =
    compiled c.args.text.now c.args.flags (text_of c.in_ok-tree.tree) c.in-Ok.code c.in_ok-tree.ensures.tree c.in_ok-tree.ensures.answer c.in-Ok.ensures.words c.in-Ok.ensures.groups c.in-Ok.ensures.names
