use Rattle.std.proofs.Common.{◌<◌, ◌^◌, arith}
use Rattle.sre_commands.proofs.ReaderLemmas.{word_read, no_word}
use Rattle.sre_commands.proofs.tokens.number.read_word.Goals as goal

pub returns-in-Some : goal.returns-in-Some
returns-in-Some c =
    let small : c.in-Some.word < 2 ^ 32 = omega arith in
    word_read c.args.bytes.now _ _ c.in-Some.word c.read_token.ensures small c.in-Some.ensures.found

pub returns-in-None : goal.returns-in-None
returns-in-None c = no_word c.args.bytes.now _ _ c.read_token.ensures c.in-None.ensures.none
