use Rattle.std.proofs.Common.{◌≡◌, ◌++◌, take, string_bytes}
use Rattle.call_tables.specs.Token.{spaced}
use Rattle.call_tables.proofs.token.write_spaced.Given as goal

abbrev pub invariant-loop-token : goal.invariant-loop-token
invariant-loop-token l = string_bytes l.line ≡ string_bytes l.initial.line ++ spaced (take l.token-index l.tokens)
