use Rattle.std.proofs.Common.{◌≡◌, ◌<◌, ◌+◌, ◌∙◌, ap, sym, List, ℕ, ◌∷◌, length, chars, take, drop, arith, not, ◌++◌, IsUtf8, IsCharBoundary}
use Rattle.std.proofs.lemmas.Bool.Decides.{nat_tests}
use Rattle.std.proofs.lemmas.Str.{chars-nil, IsUtf8-take}
use Rattle.std.proofs.lemmas.List.{nil_from_length}
use Rattle.py_base.specs.Chars.Classes.{is_line_end}
use Rattle.py_base.specs.Chars.Whitespace.{skip_while}
use Rattle.py_text.specs.Lines.{end_width, whole_lines, without_end}
use Rattle.py_text.proofs.UntilLemmas.{some_chars}
use Rattle.py_text.proofs.LineLemmas.{first_line_is, first_without, first_shorter, line_front, line_behind}
use Rattle.py_text.proofs.lines.first_line.Goals as goal

pub returns-then-is_empty-clause-lines : goal.returns-then-is_empty-clause-lines
returns-then-is_empty-clause-lines c =
    let bytes : length c.args.text.now ≡ 0 = grind (arith, nat_tests) in
    ap chars (nil_from_length c.args.text.now bytes) ∙ chars-nil

line : (s tail : List ℕ) (i n w : ℕ) → IsUtf8 s → IsCharBoundary s i → chars (take i s) ≡ without_end (chars s) → chars (drop i s) ≡ skip_while (λ c. not (is_line_end c)) (chars s) → tail ≡ drop i s → w ≡ end_width (chars tail) → chars (take n tail) ≡ take w (chars tail) → chars (take (i + n) s) ≡ without_end (chars s) ++ take (end_width (skip_while (λ c. not (is_line_end c)) (chars s))) (skip_while (λ c. not (is_line_end c)) (chars s))
line s tail i n w u b f r t e a =
    line_front s i n w (IsUtf8-take s i u b) f r (e ∙ ap (λ l. end_width (chars l)) t) (ap (λ l. chars (take n l)) (sym t) ∙ a ∙ ap (λ l. take w (chars l)) t)

after : (s tail : List ℕ) (i n w : ℕ) → chars (drop i s) ≡ skip_while (λ c. not (is_line_end c)) (chars s) → tail ≡ drop i s → w ≡ end_width (chars tail) → chars (drop n tail) ≡ drop w (chars tail) → chars (drop (i + n) s) ≡ drop (end_width (skip_while (λ c. not (is_line_end c)) (chars s))) (skip_while (λ c. not (is_line_end c)) (chars s))
after s tail i n w r t e a =
    line_behind s i n w r (e ∙ ap (λ l. end_width (chars l)) t) (ap (λ l. chars (drop n l)) (sym t) ∙ a ∙ ap (λ l. drop w (chars l)) t)

pub returns-clause-lines : goal.returns-clause-lines
returns-clause-lines c =
    let bytes : 0 < length c.args.text.now = grind (arith, nat_tests) in
    let front = ap chars c.split_at-2.ensures.front ∙ line c.args.text.now c.split_at.result.1.now c.line_len-at.result c.offset_of-end.result c.end_width_of.result c.utf8.text c.line_len-at.ensures.boundary c.line_len-at.ensures.line c.line_len-at.ensures.rest c.split_at.ensures.back c.end_width_of.ensures c.offset_of-end.ensures.before in
    let back = ap chars c.split_at-2.ensures.back ∙ after c.args.text.now c.split_at.result.1.now c.line_len-at.result c.offset_of-end.result c.end_width_of.result c.line_len-at.ensures.rest c.split_at.ensures.back c.end_width_of.ensures c.offset_of-end.ensures.after in
    first_line_is (chars c.args.text.now) (some_chars c.args.text.now c.utf8.text bytes) ∙ sym (λ j. front j ∷ whole_lines (back j))

pub returns-clause-body : goal.returns-clause-body
returns-clause-body c =
    let front = ap chars c.split_at-2.ensures.front ∙ line c.args.text.now c.split_at.result.1.now c.line_len-at.result c.offset_of-end.result c.end_width_of.result c.utf8.text c.line_len-at.ensures.boundary c.line_len-at.ensures.line c.line_len-at.ensures.rest c.split_at.ensures.back c.end_width_of.ensures c.offset_of-end.ensures.before in
    ap chars c.split_at.ensures.front ∙ c.line_len-at.ensures.line ∙ sym (first_without (chars c.args.text.now)) ∙ sym (ap without_end front)

pub returns-clause-shorter : goal.returns-clause-shorter
returns-clause-shorter c =
    let bytes : 0 < length c.args.text.now = grind (arith, nat_tests) in
    let back = ap chars c.split_at-2.ensures.back ∙ after c.args.text.now c.split_at.result.1.now c.line_len-at.result c.offset_of-end.result c.end_width_of.result c.line_len-at.ensures.rest c.split_at.ensures.back c.end_width_of.ensures c.offset_of-end.ensures.after in
    omega (arith, ap length back, first_shorter (chars c.args.text.now) (some_chars c.args.text.now c.utf8.text bytes))
