use Rattle.std.proofs.Common.{◌∙◌, sym, ap, chars}
use Rattle.std.specs.Str.Iter.{chars_rest}
use Rattle.py_str.specs.Strip.{strips}
use Rattle.py_str.proofs.PassingLemmas.{passed_none, passed_more, passed_place, left_stop, left_end}
use Rattle.py_str.proofs.strip.without_left.Goals as goal

pub chars-init : goal.chars-init
chars-init c = rw c.chars-rest.ensures.rest (passed_none _ _ c.utf8.text)

pub chars-preserved : goal.chars-preserved
chars-preserved c = rw c.len_utf8-at.ensures.value (passed_more _ _ _ _ c.chars.at c.in-Some.c (sym c.is_stripped.ensures ∙ c.if-not-is_stripped.false) c.in-Some.ensures.steps.0 c.chars.invariant)

pub returns-then-not-is_stripped : goal.returns-then-not-is_stripped
returns-then-not-is_stripped c = ap chars c.range_from.ensures.value ∙ left_stop (strips c.args.named) _ _ _ c.chars.at c.in-Some.c (sym c.is_stripped.ensures ∙ c.if-not-is_stripped.true) c.in-Some.ensures.steps.0 c.chars.invariant

pub returns : goal.returns
returns c = ap chars c.range_from-2.ensures.value ∙ left_end (strips c.args.named) _ (chars_rest c.chars.rest) c.chars.at (rw c.in_default.is at c.next.ensures.steps.0).0 c.chars.invariant

pub range_from-requires : goal.range_from-requires
range_from-requires c = λ _. passed_place _ _ _ _ c.chars.invariant
