use Rattle.std.proofs.Common.{◌≡◌, ◌<◌, ◌-◌, ◌∷◌, ◌++◌, [], ◌∙◌, ap, sym, not, length, chars, take, drop, arith}
use Rattle.std.proofs.lemmas.Bool.Decides.{nat_tests}
use Rattle.std.proofs.lemmas.Str.{chars-nil}
use Rattle.std.proofs.lemmas.List.{nil_from_length}
use Rattle.py_base.specs.Chars.Whitespace.{is_ascii_whitespace, skip_while}
use Rattle.py_text.specs.Text.{all_ascii}
use Rattle.py_text.proofs.AsciiLemmas.{ascii_skipped, ascii_kept}
use Rattle.py_text.proofs.UntilLemmas.{some_chars}
use Rattle.py_text.proofs.WhitespaceLemmas.{wording_none, wording_more, wording_rest, wording_all}
use Rattle.py_text.proofs.whitespace.split_whitespace.Goals as goal

pub loop-rest-init : goal.loop-rest-init
loop-rest-init c =
    let skipped = c.skip_whitespace-rest.ensures ∙ ap (skip_while is_ascii_whitespace) c.as_str.ensures.value in
    record {
      utf8 = c.skip_whitespace-rest.utf8;
      ascii = λ h. ap all_ascii skipped ∙ ascii_skipped is_ascii_whitespace c.args.text.now (sym c.is_ascii-ascii.ensures ∙ h);
      wording = rw c.new-list.ensures (wording_none _ _ _ skipped);
    }

pub push_copy-requires-in-loop-rest : goal.push_copy-requires-in-loop-rest
push_copy-requires-in-loop-rest c = λ h. ap (λ t. all_ascii (chars t)) c.split_at.ensures.front ∙ ap all_ascii c.word_len.ensures.word ∙ ascii_kept (λ b. not (is_ascii_whitespace b)) (chars c.loop-rest.rest.now) (c.loop-rest.invariant.ascii h)

pub loop-rest-preserved : goal.loop-rest-preserved
loop-rest-preserved c =
    let bytes : 0 < length c.loop-rest.rest.now = grind (arith, nat_tests) in
    record {
      utf8 = c.skip_whitespace-rest-in-loop-rest.utf8;
      ascii = λ h. ap all_ascii (c.skip_whitespace-rest-in-loop-rest.ensures ∙ ap (λ l. skip_while is_ascii_whitespace (chars l)) c.split_at.ensures.back ∙ ap (skip_while is_ascii_whitespace) c.word_len.ensures.rest)
          ∙ ascii_skipped is_ascii_whitespace (skip_while (λ b. not (is_ascii_whitespace b)) (chars c.loop-rest.rest.now)) (ascii_skipped (λ b. not (is_ascii_whitespace b)) (chars c.loop-rest.rest.now) (c.loop-rest.invariant.ascii h));
      wording = wording_more (chars c.loop-rest.rest.now) (chars (take c.word_len.result c.loop-rest.rest.now)) (chars (drop c.word_len.result c.loop-rest.rest.now)) _ c.loop-rest.list _ _ c.loop-rest.left (c.loop-rest.left - 1)
          (some_chars _ c.loop-rest.invariant.utf8 bytes) (omega arith) c.word_len.ensures.word c.word_len.ensures.rest
          (c.skip_whitespace-rest-in-loop-rest.ensures ∙ ap (λ l. skip_while is_ascii_whitespace (chars l)) c.split_at.ensures.back)
          (c.in_ok-push_copy-2.ensures.ok ∙ ap (λ t. c.loop-rest.list ++ chars t ∷ []) c.split_at.ensures.front) c.loop-rest.invariant.wording;
    }

pub returns-then-left-eq0-clause-ok : goal.returns-then-left-eq0-clause-ok
returns-then-left-eq0-clause-ok c =
    let bytes : 0 < length c.loop-rest.rest.now = grind (arith, nat_tests) in
    wording_rest (chars c.loop-rest.rest.now) c.loop-rest.list _ _ c.loop-rest.left (some_chars _ c.loop-rest.invariant.utf8 bytes) c.if-left-eq0.true
    c.in_ok-push_copy.ensures.ok c.loop-rest.invariant.wording

pub returns-clause-ok : goal.returns-clause-ok
returns-clause-ok c =
    let bytes : length c.loop-rest.rest.now ≡ 0 = grind (arith, nat_tests) in
    wording_all (chars c.loop-rest.rest.now) c.loop-rest.list _ c.loop-rest.left (ap chars (nil_from_length _ bytes) ∙ chars-nil) c.loop-rest.invariant.wording
