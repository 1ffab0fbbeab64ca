use Rattle.std.proofs.Common.{rules, ◌≡◌, sym, ap, ◌∙◌, length, arith}
use Rattle.sre_commands.proofs.ReaderLemmas.{token_is, end_within}
use Rattle.sre_commands.proofs.tokens.reader.read_token.Goals as goal

pub split_at-requires : goal.split_at-requires
split_at-requires c = omega (arith, c.token_length.ensures, end_within c.args.bytes.now)

pub returns : goal.returns
returns c = token_is c.args.bytes.now c.split_at.result.0.now c.split_at.result.1.now c.token_length.result c.token_length.ensures (search rules) (search rules)
