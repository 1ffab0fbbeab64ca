use Rattle.std.proofs.Common.{◌≡◌, ◌<◌, ◌-◌, ◌∷◌, ◌++◌, [], ◌∙◌, ap, sym, refl, not, length, chars, take, drop, map, reverse, arith}
use Rattle.std.proofs.lemmas.Bool.Decides.{nat_tests}
use Rattle.std.proofs.lemmas.Str.{chars-nil}
use Rattle.std.proofs.lemmas.List.{nil_from_length, map_push, length-reverse}
use Rattle.py_base.specs.Chars.Whitespace.{is_ascii_whitespace, skip_while}
use Rattle.py_text.specs.Text.{all_ascii}
use Rattle.py_text.proofs.AsciiLemmas.{ascii_skipped, ascii_kept, ascii_reversed, ascii_turned}
use Rattle.py_text.proofs.UntilLemmas.{some_chars}
use Rattle.py_text.proofs.WhitespaceLemmas.{wording_none, wording_more, wording_rest, wording_all}
use Rattle.py_text.proofs.whitespace.words_from_right.Goals as goal

pub loop-rest-init : goal.loop-rest-init
loop-rest-init c =
    let skipped = c.drop_trailing_whitespace-rest.ensures ∙ ap (λ l. skip_while is_ascii_whitespace (reverse l)) c.as_str.ensures.value in
    record {
      utf8 = c.drop_trailing_whitespace-rest.utf8;
      ascii = λ h. ap all_ascii skipped ∙ ascii_skipped is_ascii_whitespace (reverse c.args.text.now) (ascii_reversed c.args.text.now (sym c.is_ascii-ascii.ensures ∙ h));
      wording = rw c.new-list.ensures (wording_none _ _ _ skipped);
    }

pub push_copy-requires : goal.push_copy-requires
push_copy-requires c = λ h. ascii_turned (chars c.loop-rest.rest.now) _ refl (c.loop-rest.invariant.ascii h)

pub push_copy-requires-in-loop-rest : goal.push_copy-requires-in-loop-rest
push_copy-requires-in-loop-rest c = λ h. ap (λ t. all_ascii (chars t)) c.split_at.ensures.back ∙ ascii_turned (chars (drop c.last_word_start.result c.loop-rest.rest.now)) _ c.last_word_start.ensures.word (ascii_kept (λ b. not (is_ascii_whitespace b)) (reverse (chars c.loop-rest.rest.now)) (c.loop-rest.invariant.ascii h))

pub loop-rest-preserved : goal.loop-rest-preserved
loop-rest-preserved c =
    let bytes : 0 < length c.loop-rest.rest.now = grind (arith, nat_tests) in
    let some : 0 < length (reverse (chars c.loop-rest.rest.now)) = omega (arith, length-reverse (chars c.loop-rest.rest.now), some_chars c.loop-rest.rest.now c.loop-rest.invariant.utf8 bytes) in
    record {
      utf8 = c.drop_trailing_whitespace-rest-in-loop-rest.utf8;
      ascii = λ h. ap all_ascii (c.drop_trailing_whitespace-rest-in-loop-rest.ensures ∙ ap (λ l. skip_while is_ascii_whitespace (reverse (chars l))) c.split_at.ensures.front ∙ ap (skip_while is_ascii_whitespace) c.last_word_start.ensures.rest)
          ∙ ascii_skipped is_ascii_whitespace (skip_while (λ b. not (is_ascii_whitespace b)) (reverse (chars c.loop-rest.rest.now))) (ascii_skipped (λ b. not (is_ascii_whitespace b)) (reverse (chars c.loop-rest.rest.now)) (c.loop-rest.invariant.ascii h));
      wording = wording_more (reverse (chars c.loop-rest.rest.now)) (reverse (chars (drop c.last_word_start.result c.loop-rest.rest.now))) (reverse (chars (take c.last_word_start.result c.loop-rest.rest.now))) _ (map reverse c.loop-rest.list) _ _ c.loop-rest.left (c.loop-rest.left - 1)
          some (omega arith) c.last_word_start.ensures.word c.last_word_start.ensures.rest
          (c.drop_trailing_whitespace-rest-in-loop-rest.ensures ∙ ap (λ l. skip_while is_ascii_whitespace (reverse (chars l))) c.split_at.ensures.front)
          (ap (map reverse) (c.in_ok-push_copy-2.ensures.ok ∙ ap (λ t. c.loop-rest.list ++ chars t ∷ []) c.split_at.ensures.back) ∙ map_push reverse c.loop-rest.list (chars (drop c.last_word_start.result c.loop-rest.rest.now))) c.loop-rest.invariant.wording;
    }

pub returns-then-left-eq0-clause-ok : goal.returns-then-left-eq0-clause-ok
returns-then-left-eq0-clause-ok c =
    let bytes : 0 < length c.loop-rest.rest.now = grind (arith, nat_tests) in
    let some : 0 < length (reverse (chars c.loop-rest.rest.now)) = omega (arith, length-reverse (chars c.loop-rest.rest.now), some_chars c.loop-rest.rest.now c.loop-rest.invariant.utf8 bytes) in
    wording_rest (reverse (chars c.loop-rest.rest.now)) (map reverse c.loop-rest.list) _ _ c.loop-rest.left some c.if-left-eq0.true
    (ap (map reverse) c.in_ok-push_copy.ensures.ok ∙ map_push reverse c.loop-rest.list (chars c.loop-rest.rest.now)) c.loop-rest.invariant.wording

pub returns-clause-ok : goal.returns-clause-ok
returns-clause-ok c =
    let bytes : length c.loop-rest.rest.now ≡ 0 = grind (arith, nat_tests) in
    wording_all (reverse (chars c.loop-rest.rest.now)) (map reverse c.loop-rest.list) _ c.loop-rest.left (ap (λ l. reverse (chars l)) (nil_from_length _ bytes) ∙ ap reverse chars-nil) c.loop-rest.invariant.wording
