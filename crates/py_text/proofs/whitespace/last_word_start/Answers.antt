use Rattle.std.proofs.Common.{◌∙◌, ap, sym, refl, not, rules, reverse}
use Rattle.std.proofs.lemmas.Str.{chars-nil, IsCharBoundary-start}
use Rattle.std.proofs.lemmas.List.Sorted.{answers_always}
use Rattle.py_base.specs.Chars.Whitespace.{is_ascii_whitespace}
use Rattle.py_text.proofs.UntilLemmas.{found_back, none_back, char_there}
use Rattle.py_text.proofs.whitespace.last_word_start.Goals as goal

pub end_of_char-requires-clause-there : goal.end_of_char-requires-clause-there
end_of_char-requires-clause-there c =
    let f = c.in-Some.ensures.cases.1 is_ascii_whitespace (answers_always _ _ _ (λ f a r g h. search rules)) in
    char_there is_ascii_whitespace c.args.text.now c.in-Some.at c.in-Some.ensures.cases.0 f.1

pub returns-in-Some-clause-word : goal.returns-in-Some-clause-word
returns-in-Some-clause-word c =
    let f = c.in-Some.ensures.cases.1 is_ascii_whitespace (answers_always _ _ _ (λ f a r g h. search rules)) in
    sym (found_back is_ascii_whitespace (λ d. not (is_ascii_whitespace d)) (λ d. refl) c.args.text.now c.in-Some.at c.in-Some.ensures.cases.0 c.end_of_char.result c.utf8.text f c.in-Some.ensures.cases.3 c.in-Some.ensures.cases.4 c.end_of_char.ensures.before c.end_of_char.ensures.rest).taken

pub returns-in-Some-clause-rest : goal.returns-in-Some-clause-rest
returns-in-Some-clause-rest c =
    let f = c.in-Some.ensures.cases.1 is_ascii_whitespace (answers_always _ _ _ (λ f a r g h. search rules)) in
    sym (found_back is_ascii_whitespace (λ d. not (is_ascii_whitespace d)) (λ d. refl) c.args.text.now c.in-Some.at c.in-Some.ensures.cases.0 c.end_of_char.result c.utf8.text f c.in-Some.ensures.cases.3 c.in-Some.ensures.cases.4 c.end_of_char.ensures.before c.end_of_char.ensures.rest).skipped

pub returns-in-None-clause-boundary : goal.returns-in-None-clause-boundary
returns-in-None-clause-boundary c = IsCharBoundary-start c.args.text.now c.utf8.text

pub returns-in-None-clause-word : goal.returns-in-None-clause-word
returns-in-None-clause-word c =
    let f = c.in-None.ensures.cases is_ascii_whitespace (answers_always _ _ _ (λ f a r g h. search rules)) in
    sym (none_back is_ascii_whitespace (λ d. not (is_ascii_whitespace d)) (λ d. refl) c.args.text.now c.utf8.text f).taken

pub returns-in-None-clause-rest : goal.returns-in-None-clause-rest
returns-in-None-clause-rest c =
    let f = c.in-None.ensures.cases is_ascii_whitespace (answers_always _ _ _ (λ f a r g h. search rules)) in
    ap reverse chars-nil ∙ sym (none_back is_ascii_whitespace (λ d. not (is_ascii_whitespace d)) (λ d. refl) c.args.text.now c.utf8.text f).skipped
