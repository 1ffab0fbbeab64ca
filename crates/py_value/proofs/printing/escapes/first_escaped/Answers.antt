use Rattle.std.proofs.Common.{◌≡◌, ◌∙◌, ◌++◌, sym, ap, chars, take, slice_range, arith}
use Rattle.std.specs.Str.Iter.{chars_rest}
use Rattle.py_str.specs.Passing.{IsPassed}
use Rattle.py_str.proofs.PassingLemmas.{passed_place}
use Rattle.py_value.specs.Printing.{is_kept, ascii_char, escaped}
use Rattle.py_value.proofs.AsciiLemmas.{escaped_at, escaped_none}
use Rattle.py_value.proofs.printing.escapes.first_escaped.Goals as goal

pub range_from-requires : goal.range_from-requires
range_from-requires c = λ _. passed_place _ _ _ _ c.kept-at.ensures

pub range-requires-clause-end_boundary : goal.range-requires-clause-end_boundary
range-requires-clause-end_boundary c = passed_place _ _ _ _ c.kept-at.ensures

pub returns-in-Some-clause-parts : goal.returns-in-Some-clause-parts
returns-in-Some-clause-parts c =
    let e : chars_rest c.chars-rest.result ≡ c.range_from.result.now = c.chars-rest.ensures.rest in
    let p : IsPassed is_kept c.args.text.now (chars_rest c.chars-rest.result) c.kept-at.result = rw (e ∙ c.range_from.ensures.value) c.kept-at.ensures in
    let t : slice_range c.args.text.now 0 c.kept-at.result ≡ take c.kept-at.result c.args.text.now = grind arith in
    escaped_at _ _ _ c.kept-at.result c.in-Some.c c.in-Some.ensures.steps.0 p
    ∙ ap (λ l. chars l ++ ascii_char c.in-Some.c ++ escaped (chars (chars_rest c.next.new.self))) (sym (c.range.ensures.value ∙ t))
    ∙ ap (λ l. chars c.range.result.now ++ ascii_char c.in-Some.c ++ escaped (chars l)) (sym c.as_str.ensures)

pub returns-in-None-clause-parts : goal.returns-in-None-clause-parts
returns-in-None-clause-parts c =
    let e : chars_rest c.chars-rest.result ≡ c.range_from.result.now = c.chars-rest.ensures.rest in
    let p : IsPassed is_kept c.args.text.now (chars_rest c.chars-rest.result) c.kept-at.result = rw (e ∙ c.range_from.ensures.value) c.kept-at.ensures in
    escaped_none _ (chars_rest c.chars-rest.result) c.kept-at.result c.in-None.ensures.steps.0.0 p
