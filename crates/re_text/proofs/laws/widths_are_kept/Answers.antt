use Rattle.re_text.proofs.WidthLemmas.{width_ends}
use Rattle.re_text.proofs.laws.widths_are_kept.Goals as goal

pub returns : goal.returns
returns c = width_ends
