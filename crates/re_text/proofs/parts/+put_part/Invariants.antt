use Rattle.std.proofs.Common.{◌≡◌, ◌+◌, ◌*◌, ◌++◌, length, max, drop}
use Rattle.re_tree.specs.TextView.{text_of, texts_of, height, heights}
use Rattle.re_text.specs.Words.{words_of_parts, alternatives}
use Rattle.re_text.proofs.WordLemmas.{body_height}
use Rattle.re_text.proofs.parts.+put_part.Given as goal

abbrev pub decreases-put_part : goal.decreases-put_part
decreases-put_part l = 4 * height (text_of l.tree.now)

abbrev pub decreases-put_parts : goal.decreases-put_parts
decreases-put_parts l = 4 * heights (texts_of l.parts.now) + 1

abbrev pub decreases-put_branch : goal.decreases-put_branch
decreases-put_branch l = 4 * heights (texts_of l.branches.now) + 3

abbrev pub decreases-put_alternatives : goal.decreases-put_alternatives
decreases-put_alternatives l = 4 * heights (texts_of l.branches.now) + 2

abbrev pub decreases-put_alternative : goal.decreases-put_alternative
decreases-put_alternative l = 4 * height (text_of l.branch.now) + 1

abbrev pub decreases-put_capture : goal.decreases-put_capture
decreases-put_capture l = 4 * height l.body.now + 1

abbrev pub decreases-put_conditional : goal.decreases-put_conditional
decreases-put_conditional l = 4 * height l.yes.now + 1

abbrev pub decreases-put_other : goal.decreases-put_other
decreases-put_other l = 4 * height l.no.now + 1

abbrev pub decreases-put_conditional_else : goal.decreases-put_conditional_else
decreases-put_conditional_else l = 4 * max (height l.yes.now) (height l.no.now) + 2

abbrev pub decreases-put_either : goal.decreases-put_either
decreases-put_either l = 4 * max (height l.yes.now) (body_height l.no.now) + 3

abbrev pub decreases-put_counted : goal.decreases-put_counted
decreases-put_counted l = 4 * height l.body.now + 1

abbrev pub decreases-put_atomic : goal.decreases-put_atomic
decreases-put_atomic l = 4 * height l.body.now + 1

abbrev pub decreases-put_look : goal.decreases-put_look
decreases-put_look l = 4 * height l.body.now + 1

abbrev pub invariant-put_parts-loop-i : goal.invariant-put_parts-loop-i
invariant-put_parts-loop-i l = l.code ≡ words_of_parts l.names (texts_of (drop l.i l.parts)) ++ l.initial.code

abbrev pub invariant-put_alternatives-loop-i : goal.invariant-put_alternatives-loop-i
invariant-put_alternatives-loop-i l = (l.code ≡ alternatives l.names (texts_of (drop l.i l.branches)) ++ l.fn.code) × (l.end ≡ length l.fn.code)
