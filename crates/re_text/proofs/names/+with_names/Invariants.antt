use Rattle.std.proofs.Common.{◌≡◌, ◌+◌, ◌*◌, ◌++◌, max, drop}
use Rattle.re_tree.specs.PlainText.{all_names}
use Rattle.re_tree.specs.TextView.{text_of, texts_of, height, heights}
use Rattle.re_text.proofs.WordLemmas.{body_height}
use Rattle.re_text.proofs.names.+with_names.Given as goal

abbrev pub decreases-with_names : goal.decreases-with_names
decreases-with_names l = 2 * height (text_of l.tree.now)

abbrev pub decreases-with_names_in : goal.decreases-with_names_in
decreases-with_names_in l = 2 * heights (texts_of l.parts.now) + 1

abbrev pub decreases-with_names_in_either : goal.decreases-with_names_in_either
decreases-with_names_in_either l = 2 * max (height l.yes.now) (body_height l.no.now) + 1

abbrev pub invariant-with_names_in-loop-i : goal.invariant-with_names_in-loop-i
invariant-with_names_in-loop-i l = l.longer ++ all_names (texts_of (drop l.i l.parts)) ≡ l.initial.longer ++ all_names (texts_of l.parts)
