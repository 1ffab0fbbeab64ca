use Rattle.std.proofs.Common.{◌∙◌, ap, sym, refl, not, rules, length, chars, le_refl, take_all}
use Rattle.std.proofs.lemmas.Str.{chars-nil}
use Rattle.std.proofs.lemmas.List.{drop_all}
use Rattle.std.proofs.lemmas.List.Sorted.{answers_always}
use Rattle.py_base.specs.Chars.Whitespace.{is_ascii_whitespace}
use Rattle.py_text.proofs.UntilLemmas.{found_front, none_front}
use Rattle.py_text.proofs.whitespace.word_len.Goals as goal

pub returns-in-Some-clause-word : goal.returns-in-Some-clause-word
returns-in-Some-clause-word c =
    let f = c.in-Some.ensures.cases.1 is_ascii_whitespace (answers_always _ _ _ (λ f a r g h. search rules)) in
    sym (found_front is_ascii_whitespace (λ d. not (is_ascii_whitespace d)) (λ d. refl) c.args.text.now c.in-Some.at c.in-Some.ensures.cases.0 c.utf8.text f c.in-Some.ensures.cases.3).taken

pub returns-in-Some-clause-rest : goal.returns-in-Some-clause-rest
returns-in-Some-clause-rest c =
    let f = c.in-Some.ensures.cases.1 is_ascii_whitespace (answers_always _ _ _ (λ f a r g h. search rules)) in
    sym (found_front is_ascii_whitespace (λ d. not (is_ascii_whitespace d)) (λ d. refl) c.args.text.now c.in-Some.at c.in-Some.ensures.cases.0 c.utf8.text f c.in-Some.ensures.cases.3).skipped

pub returns-in-None-clause-word : goal.returns-in-None-clause-word
returns-in-None-clause-word c =
    let f = c.in-None.ensures.cases is_ascii_whitespace (answers_always _ _ _ (λ f a r g h. search rules)) in
    ap chars (take_all (length c.args.text.now) c.args.text.now (le_refl _)) ∙ sym (none_front is_ascii_whitespace (λ d. not (is_ascii_whitespace d)) (λ d. refl) c.args.text.now c.utf8.text f).taken

pub returns-in-None-clause-rest : goal.returns-in-None-clause-rest
returns-in-None-clause-rest c =
    let f = c.in-None.ensures.cases is_ascii_whitespace (answers_always _ _ _ (λ f a r g h. search rules)) in
    ap chars (drop_all (length c.args.text.now) c.args.text.now (le_refl _)) ∙ chars-nil ∙ sym (none_front is_ascii_whitespace (λ d. not (is_ascii_whitespace d)) (λ d. refl) c.args.text.now c.utf8.text f).skipped
