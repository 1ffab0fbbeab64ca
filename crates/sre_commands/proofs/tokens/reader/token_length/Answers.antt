use Rattle.std.proofs.Common.{◌∙◌}
use Rattle.sre_commands.proofs.ReaderLemmas.{end_found}
use Rattle.sre_commands.proofs.tokens.reader.token_length.Goals as goal

pub returns : goal.returns
returns c = c.unwrap_or.ensures ∙ end_found c.args.bytes.now c.memchr2.result c.memchr2.ensures
