use Rattle.std.proofs.Common.{arith}
use Rattle.sre_commands.proofs.DecodeLemmas.{value_is}
use Rattle.sre_commands.proofs.tokens.hexadecimal.value_of.Goals as goal

pub returns-clause-digit : goal.returns-clause-digit
returns-clause-digit c = value_is c.args.byte (omega arith)
