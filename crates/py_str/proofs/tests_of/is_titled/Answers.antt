use Rattle.std.proofs.Common.{◌∙◌, sym, ap, chars}
use Rattle.std.proofs.lemmas.Str.{IsUtf8-past_char}
use Rattle.std.specs.Str.Iter.{chars_rest}
use Rattle.py_str.specs.TestsOf.{titled}
use Rattle.py_str.proofs.TestsOfLemmas.{titled_more, titled_stops, titled_ends}
use Rattle.py_str.proofs.tests_of.is_titled.Goals as goal

pub chars-preserved : goal.chars-preserved
chars-preserved c = record {
  utf8 = IsUtf8-past_char _ _ c.in-Some.c c.chars.invariant.utf8 c.in-Some.ensures.steps.0;
  whole = ap (λ b. titled b (chars (chars_rest c.next.new.self))) c.is_cased-after_cased.ensures
      ∙ titled_more c.chars.after_cased _ _ c.in-Some.c _ c.chars.invariant.utf8 c.in-Some.ensures.steps.0 (sym c.fits_title.ensures ∙ c.if-not-fits_title.false) c.chars.invariant.whole;
}

pub returns-then-not-fits_title : goal.returns-then-not-fits_title
returns-then-not-fits_title c = titled_stops c.chars.after_cased _ _ c.in-Some.c _ c.chars.invariant.utf8 c.in-Some.ensures.steps.0 (sym c.fits_title.ensures ∙ c.if-not-fits_title.true) c.chars.invariant.whole

pub returns : goal.returns
returns c = titled_ends c.chars.after_cased (chars_rest c.chars.rest) _ (rw c.in_default.is at c.next.ensures.steps.0).0 c.chars.invariant.whole
