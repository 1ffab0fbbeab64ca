use Rattle.std.proofs.Common.{◌≡◌, ◌∙◌, sym, ap, chars, rules, arith, take, slice_range}
use Rattle.std.specs.Str.Iter.{chars_rest}
use Rattle.py_str.specs.Strip.{strips}
use Rattle.py_str.proofs.PassingLemmas.{back_none, back_more, back_place, right_stop, right_end}
use Rattle.py_str.proofs.strip.without_right.Goals as goal

pub chars-init : goal.chars-init
chars-init c = rw c.chars-rest.ensures.rest (back_none _ _ _ c.utf8.text (search rules))

pub chars-preserved : goal.chars-preserved
chars-preserved c = back_more _ _ _ _ _ _ c.in-Some.c (search rules) (sym c.is_stripped.ensures ∙ c.if-not-is_stripped.false) c.in-Some.ensures.steps (search rules) c.chars.invariant

pub range-requires-clause-end_boundary : goal.range-requires-clause-end_boundary
range-requires-clause-end_boundary c = back_place _ _ _ _ c.chars.invariant

pub returns-then-not-is_stripped : goal.returns-then-not-is_stripped
returns-then-not-is_stripped c =
    let t : slice_range c.args.text.now 0 c.chars.end ≡ take c.chars.end c.args.text.now = grind arith in
    ap chars (c.range.ensures.value ∙ t) ∙ right_stop (strips c.args.named) _ _ _ c.chars.end c.in-Some.c (search rules) (sym c.is_stripped.ensures ∙ c.if-not-is_stripped.true) c.in-Some.ensures.steps c.chars.invariant

pub returns : goal.returns
returns c =
    let t : slice_range c.args.text.now 0 c.chars.end ≡ take c.chars.end c.args.text.now = grind arith in
    ap chars (c.range-2.ensures.value ∙ t) ∙ right_end (strips c.args.named) _ (chars_rest c.chars.rest) c.chars.end (rw c.in_default.is at c.next_back.ensures.steps).0 c.chars.invariant

pub range-requires-2-clause-end_boundary : goal.range-requires-2-clause-end_boundary
range-requires-2-clause-end_boundary c = back_place _ _ _ _ c.chars.invariant
