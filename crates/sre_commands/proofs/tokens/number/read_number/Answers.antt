use Rattle.std.proofs.Common.{◌<◌, ◌^◌, arith}
use Rattle.sre_commands.proofs.ReaderLemmas.{number_read, no_number}
use Rattle.sre_commands.proofs.tokens.number.read_number.Goals as goal

pub returns-in-Some : goal.returns-in-Some
returns-in-Some c =
    let small : c.in-Some.number < 2 ^ 64 = omega arith in
    number_read c.args.bytes.now _ _ c.in-Some.number c.read_token.ensures small c.in-Some.ensures.found

pub returns-in-None : goal.returns-in-None
returns-in-None c = no_number c.args.bytes.now _ _ c.read_token.ensures c.in-None.ensures.none
