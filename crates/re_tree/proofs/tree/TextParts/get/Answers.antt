use Rattle.std.proofs.Common.{ap, ◌∙◌}
use Rattle.std.specs.Option.{option_map}
use Rattle.re_tree.specs.TextView.{text_of}
use Rattle.re_tree.proofs.ViewLemmas.{part_at-texts_of}
use Rattle.re_tree.proofs.tree.TextParts.get.Goals as goal

pub returns : goal.returns
returns c = rw (← c.self.view_is) (ap (option_map text_of) c.get.ensures.value ∙ part_at-texts_of c.self.inside.parts c.args.i)
