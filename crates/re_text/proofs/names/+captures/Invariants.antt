use Rattle.std.proofs.Common.{◌≡◌, ◌+◌, ◌*◌, drop}
use Rattle.re_tree.specs.PlainText.{all_captures}
use Rattle.re_tree.specs.TextView.{text_of, texts_of, height, heights}
use Rattle.re_text.proofs.WordLemmas.{body_height}
use Rattle.re_text.proofs.names.+captures.Given as goal

abbrev pub decreases-captures : goal.decreases-captures
decreases-captures l = 2 * height (text_of l.tree.now)

abbrev pub decreases-captures_in : goal.decreases-captures_in
decreases-captures_in l = 2 * heights (texts_of l.parts.now) + 1

abbrev pub decreases-captures_or_zero : goal.decreases-captures_or_zero
decreases-captures_or_zero l = 2 * body_height l.body.now + 1

abbrev pub invariant-captures_in-loop-i : goal.invariant-captures_in-loop-i
invariant-captures_in-loop-i l = l.n ≡ all_captures (texts_of (drop l.i l.parts))
