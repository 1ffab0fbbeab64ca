use Rattle.std.proofs.Common.{◌≡◌, true, false, Ok, Err, drop, sym, ap, ◌∙◌}
use Rattle.std.proofs.lemmas.Result.{err_from_is_err_and}
use Rattle.py_base.specs.Reading.{is_next}
use Rattle.sre_commands.specs.Error.{no_memory}
use Rattle.sre_commands.specs.Tokens.Number.{read_word}
use Rattle.py_base.proofs.LoopLemmas.{handed_on}
use Rattle.sre_commands.proofs.LeftLemmas.{words_none, word_shorter, words_more, words_error, words_end}
use Rattle.sre_commands.proofs.tokens.number.read_words.Goals as goal

pub loop-rest-init : goal.loop-rest-init
loop-rest-init c = rw c.new-words.ensures.items (words_none c.args.bytes.now)

pub loop-rest-smaller : goal.loop-rest-smaller
loop-rest-smaller c =
    let go : is_next 32 c.loop-rest.rest.now ≡ true = cc (c.is_next.ensures, c.loop-rest-test.true) in
    word_shorter c.loop-rest.rest.now c.in_ok-word.after.now c.in_ok-word.word go (c.in_ok-word.ensures ∙ ap (read_word) c.after_next.ensures)

pub loop-rest-preserved : goal.loop-rest-preserved
loop-rest-preserved c =
    let go : is_next 32 c.loop-rest.rest.now ≡ true = cc (c.is_next.ensures, c.loop-rest-test.true) in
    rw c.in_ok-push.ensures.items
    (words_more c.args.bytes.now c.loop-rest.rest.now c.in_ok-word.after.now c.loop-rest.words.items c.in_ok-word.word go (c.in_ok-word.ensures ∙ ap (read_word) c.after_next.ensures) c.loop-rest.invariant)

pub returns-in_err-word : goal.returns-in_err-word
returns-in_err-word c =
    let go : is_next 32 c.loop-rest.rest.now ≡ true = cc (c.is_next.ensures, c.loop-rest-test.true) in
    let p = err_from_is_err_and c.from_residual.result c.from_residual.ensures.1 in
    rw (p.1, p.2) (handed_on (no_memory c.in_err-word.field-0.0) c.in_err-word.field-0.0 (λ h. words_error c.args.bytes.now c.loop-rest.rest.now c.loop-rest.words.items _ go (sym (ap (read_word) c.after_next.ensures) ∙ h) c.loop-rest.invariant) c.in_err-word.ensures)

pub returns : goal.returns
returns c =
    let stop : is_next 32 c.loop-rest.rest.now ≡ false = cc (c.is_next.ensures, c.loop-rest-test.false) in
    words_end c.args.bytes.now c.loop-rest.rest.now c.loop-rest.words.items stop c.loop-rest.invariant
