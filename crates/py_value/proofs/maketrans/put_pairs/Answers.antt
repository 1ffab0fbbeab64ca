use Rattle.std.proofs.Common.{◌≡◌, ◌∙◌}
use Rattle.std.proofs.lemmas.Str.{IsUtf8-past_char}
use Rattle.std.specs.Str.Iter.{chars_rest}
use Rattle.py_value.proofs.TextLemmas.{pairs_more, pairs_end, pairs_stop}
use Rattle.py_value.proofs.maketrans.put_pairs.Goals as goal

pub chars-preserved : goal.chars-preserved
chars-preserved c = record {
  left = IsUtf8-past_char _ _ c.in-Some.c c.chars.invariant.left c.in-Some.ensures.steps.0;
  right = IsUtf8-past_char _ _ c.in-Some-next.d c.chars.invariant.right c.in-Some-next.ensures.steps.0;
  whole = pairs_more _ _ _ _ c.in-Some.c c.in-Some-next.d _ _ _ c.chars.invariant.left c.in-Some.ensures.steps.0 c.chars.invariant.right c.in-Some-next.ensures.steps.0 (rw c.code_of.ensures at c.in_ok-put_char.ensures.ok) c.chars.invariant.whole;
}

pub returns-in_default-next-clause-ok : goal.returns-in_default-next-clause-ok
returns-in_default-next-clause-ok c =
    pairs_stop _ _ (chars_rest c.chars.right) c.in-Some.c _ _ c.chars.invariant.left c.in-Some.ensures.steps.0 (rw c.in_default-next.is at c.next-in-Some.ensures.steps.0).0 c.chars.invariant.whole

pub returns-clause-ok : goal.returns-clause-ok
returns-clause-ok c = pairs_end (chars_rest c.chars.left) (chars_rest c.chars.right) _ _ (rw c.in_default.is at c.next.ensures.steps.0).0 c.chars.invariant.whole
