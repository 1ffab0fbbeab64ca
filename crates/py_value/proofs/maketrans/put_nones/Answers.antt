use Rattle.std.proofs.Common.{◌≡◌, ◌∙◌}
use Rattle.std.proofs.lemmas.Str.{IsUtf8-past_char}
use Rattle.std.specs.Str.Iter.{chars_rest}
use Rattle.py_value.proofs.TextLemmas.{nones_more, nones_end}
use Rattle.py_value.proofs.maketrans.put_nones.Goals as goal

pub chars-preserved : goal.chars-preserved
chars-preserved c = record {
  utf8 = IsUtf8-past_char _ _ c.in-Some.c c.chars.invariant.utf8 c.in-Some.ensures.steps.0;
  whole = nones_more _ _ c.in-Some.c _ _ _ c.chars.invariant.utf8 c.in-Some.ensures.steps.0 c.in_ok-put_char.ensures.ok c.chars.invariant.whole;
}

pub returns-clause-ok : goal.returns-clause-ok
returns-clause-ok c = nones_end (chars_rest c.chars.rest) _ _ (rw c.in_default.is at c.next.ensures.steps.0).0 c.chars.invariant.whole
