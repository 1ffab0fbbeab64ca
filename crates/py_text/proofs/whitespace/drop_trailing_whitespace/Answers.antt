use Rattle.std.proofs.Common.{◌≡◌, ◌∙◌, ap, sym, not, rules, take, chars, reverse, slice_range, arith}
use Rattle.std.proofs.lemmas.Str.{chars-nil, IsCharBoundary-start}
use Rattle.std.proofs.lemmas.List.Sorted.{answers_always}
use Rattle.py_base.specs.Chars.Whitespace.{is_ascii_whitespace}
use Rattle.py_text.proofs.UntilLemmas.{found_back, none_back, twice_not, char_there}
use Rattle.py_text.proofs.whitespace.drop_trailing_whitespace.Goals as goal

pub end_of_char-requires-clause-there : goal.end_of_char-requires-clause-there
end_of_char-requires-clause-there c =
    let f = c.in-Some.ensures.cases.1 (λ d. not (is_ascii_whitespace d)) (answers_always _ _ _ (λ f a r g h. search rules)) in
    char_there (λ d. not (is_ascii_whitespace d)) c.args.text.now c.in-Some.at c.in-Some.ensures.cases.0 f.1

pub range-requires-in-None-clause-end_boundary : goal.range-requires-in-None-clause-end_boundary
range-requires-in-None-clause-end_boundary c = IsCharBoundary-start c.args.text.now c.utf8.text

pub returns-in-Some : goal.returns-in-Some
returns-in-Some c =
    let f = c.in-Some.ensures.cases.1 (λ d. not (is_ascii_whitespace d)) (answers_always _ _ _ (λ f a r g h. search rules)) in
    let t : slice_range c.args.text.now 0 c.end_of_char.result ≡ take c.end_of_char.result c.args.text.now = grind arith in
    ap (λ l. reverse (chars l)) (c.range.ensures.value ∙ t)
    ∙ sym (found_back (λ d. not (is_ascii_whitespace d)) is_ascii_whitespace (λ d. sym (twice_not (is_ascii_whitespace d))) c.args.text.now c.in-Some.at c.in-Some.ensures.cases.0 c.end_of_char.result c.utf8.text f c.in-Some.ensures.cases.3 c.in-Some.ensures.cases.4 c.end_of_char.ensures.before c.end_of_char.ensures.rest).skipped

pub returns-in-None : goal.returns-in-None
returns-in-None c =
    let f = c.in-None.ensures.cases (λ d. not (is_ascii_whitespace d)) (answers_always _ _ _ (λ f a r g h. search rules)) in
    ap (λ l. reverse (chars l)) c.range-in-None.ensures.value ∙ ap reverse chars-nil ∙ sym (none_back (λ d. not (is_ascii_whitespace d)) is_ascii_whitespace (λ d. sym (twice_not (is_ascii_whitespace d))) c.args.text.now c.utf8.text f).skipped
