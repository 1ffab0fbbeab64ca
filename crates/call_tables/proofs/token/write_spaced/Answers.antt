use Rattle.std.proofs.Common.{◌∙◌, string_bytes}
use Rattle.call_tables.proofs.TokenLemmas.{word_written}
use Rattle.call_tables.proofs.token.write_spaced.Goals as goal

pub loop-token-preserved : goal.loop-token-preserved
loop-token-preserved c =
    word_written (string_bytes c.loop-token.line) (string_bytes c.push_str.new.self) (string_bytes c.push_str-in-loop-token.new.self) (string_bytes c.args.line.now) c.as_str.result.now c.args.tokens.now c.loop-token.token-index c.token-item.result
    c.loop-token-test.true c.token-item.is (c.as_str.ensures.value ∙ c.in_ok-word.ensures) c.loop-token.invariant c.in_ok-push_str.ensures.bytes c.in_ok-push_str-2.ensures.bytes
