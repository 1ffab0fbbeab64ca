use Rattle.std.proofs.Common.{◌∙◌}
use Rattle.re_tree.proofs.ViewLemmas.{part_count-texts_of}
use Rattle.re_tree.proofs.tree.TextParts.len.Goals as goal

pub returns : goal.returns
returns c = rw (← c.self.view_is) (c.len.ensures ∙ part_count-texts_of c.self.inside.parts)
