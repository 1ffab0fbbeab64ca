use Rattle.std.proofs.Common.{◌≡◌, ◌∙◌, ◌∷◌, sym, ap, chars, take, slice_range, arith}
use Rattle.std.specs.Str.Iter.{chars_rest}
use Rattle.py_str.specs.Quote.{plain_of, is_kept}
use Rattle.py_str.proofs.PassingLemmas.{passed_more, passed_place, stop_taken, stop_skipped, none_skipped}
use Rattle.py_str.proofs.quote.first_escaped.Goals as goal

pub chars-init : goal.chars-init
chars-init c = rw (c.chars-rest.ensures.rest ∙ c.range_from.ensures.value) (c.kept_ascii-at.ensures c.args.ascii)

pub range_from-requires : goal.range_from-requires
range_from-requires c = λ _. passed_place _ _ _ _ (c.kept_ascii-at.ensures c.args.ascii)

pub chars-preserved : goal.chars-preserved
chars-preserved c = rw c.len_utf8-at.ensures.value (passed_more _ _ _ _ c.chars.at c.in-Some.c (sym c.is_kept.ensures ∙ c.if-not-is_kept.false) c.in-Some.ensures.steps.0 c.chars.invariant)

pub range-requires-clause-end_boundary : goal.range-requires-clause-end_boundary
range-requires-clause-end_boundary c = passed_place _ _ _ _ c.chars.invariant

pub returns-then-not-is_kept-clause-before : goal.returns-then-not-is_kept-clause-before
returns-then-not-is_kept-clause-before c =
    let t : slice_range c.args.text.now 0 c.chars.at ≡ take c.chars.at c.args.text.now = grind arith in
    stop_taken (λ d. is_kept c.args.quote (plain_of c.args.ascii d) d) _ _ _ c.chars.at c.in-Some.c (sym c.is_kept.ensures ∙ c.if-not-is_kept.true) c.in-Some.ensures.steps.0 c.chars.invariant
    ∙ ap chars (sym (c.range.ensures.value ∙ t))

pub returns-then-not-is_kept-clause-rest : goal.returns-then-not-is_kept-clause-rest
returns-then-not-is_kept-clause-rest c =
    stop_skipped (λ d. is_kept c.args.quote (plain_of c.args.ascii d) d) _ _ _ c.chars.at c.in-Some.c (sym c.is_kept.ensures ∙ c.if-not-is_kept.true) c.in-Some.ensures.steps.0 c.chars.invariant
    ∙ ap (λ l. c.in-Some.c ∷ chars l) (sym c.as_str.ensures)

pub returns-clause-rest : goal.returns-clause-rest
returns-clause-rest c = none_skipped (λ d. is_kept c.args.quote (plain_of c.args.ascii d) d) _ (chars_rest c.chars.rest) c.chars.at (rw c.in_default.is at c.next.ensures.steps.0).0 c.chars.invariant
