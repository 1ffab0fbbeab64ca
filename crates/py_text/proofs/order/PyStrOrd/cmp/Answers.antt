use Rattle.std.proofs.Common.{◌∙◌}
use Rattle.std.specs.Cmp.Lexicographic.{slice_cmp}
use Rattle.std.specs.Ordering.{nat_cmp}
use Rattle.py_text.proofs.OrderLemmas.{bytes_order}
use Rattle.py_text.proofs.order.PyStrOrd.cmp.Goals as goal

pub returns : goal.returns
returns c = c.cmp.ensures ∙ (λ j. slice_cmp nat_cmp (c.as_str.ensures.bytes j) (c.as_str-2.ensures.bytes j)) ∙ bytes_order c.args.self.now c.args.other.now
