use Rattle.std.proofs.Common.{◌≡◌, ◌+◌, ◌*◌, ◌≤◌, ◌<◌, ℕ, drop, length}
use Rattle.re_tree.specs.Widths as widths
use Rattle.re_tree.specs.TextView.{text_of, texts_of, height, heights}
use Rattle.re_parse.proofs.TreeWidthLemmas.{body_height}
use Rattle.re_parse.proofs.tree_width.+tree_width.Given as goal

abbrev pub decreases-width_of : goal.decreases-width_of
decreases-width_of l = 2 * height (text_of l.tree.now)

abbrev pub decreases-sum_of_widths : goal.decreases-sum_of_widths
decreases-sum_of_widths l = 2 * heights (texts_of l.parts.now) + 1

abbrev pub decreases-common_width : goal.decreases-common_width
decreases-common_width l = 2 * heights (texts_of l.branches.now) + 1

abbrev pub decreases-width_or_zero : goal.decreases-width_or_zero
decreases-width_or_zero l = 2 * body_height l.body.now + 1

abbrev pub invariant-common_width-loop-i : goal.invariant-common_width-loop-i
invariant-common_width-loop-i l = (l.i < length l.branches) × (l.joined ≡ widths.common_width (texts_of (drop l.i l.branches)))

abbrev pub invariant-sum_of_widths-loop-i : goal.invariant-sum_of_widths-loop-i
invariant-sum_of_widths-loop-i l = l.sum ≡ widths.sum_of_widths (texts_of (drop l.i l.parts))
