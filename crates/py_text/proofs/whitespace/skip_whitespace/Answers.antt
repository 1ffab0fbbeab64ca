use Rattle.std.proofs.Common.{◌∙◌, ap, sym, not, rules, length, chars, le_refl}
use Rattle.std.proofs.lemmas.Str.{chars-nil}
use Rattle.std.proofs.lemmas.List.{drop_all}
use Rattle.std.proofs.lemmas.List.Sorted.{answers_always}
use Rattle.py_base.specs.Chars.Whitespace.{is_ascii_whitespace}
use Rattle.py_text.proofs.UntilLemmas.{found_front, none_front, twice_not}
use Rattle.py_text.proofs.whitespace.skip_whitespace.Goals as goal

pub returns-in-Some : goal.returns-in-Some
returns-in-Some c =
    let f = c.in-Some.ensures.cases.1 (λ d. not (is_ascii_whitespace d)) (answers_always _ _ _ (λ f a r g h. search rules)) in
    ap chars c.range_from.ensures.value ∙ sym (found_front (λ d. not (is_ascii_whitespace d)) is_ascii_whitespace (λ d. sym (twice_not (is_ascii_whitespace d))) c.args.text.now c.in-Some.at c.in-Some.ensures.cases.0 c.utf8.text f c.in-Some.ensures.cases.3).skipped

pub returns-in-None : goal.returns-in-None
returns-in-None c =
    let f = c.in-None.ensures.cases (λ d. not (is_ascii_whitespace d)) (answers_always _ _ _ (λ f a r g h. search rules)) in
    ap chars (c.range_from-in-None.ensures.value ∙ drop_all (length c.args.text.now) c.args.text.now (le_refl _)) ∙ chars-nil ∙ sym (none_front (λ d. not (is_ascii_whitespace d)) is_ascii_whitespace (λ d. sym (twice_not (is_ascii_whitespace d))) c.args.text.now c.utf8.text f).skipped
