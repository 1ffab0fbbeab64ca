use Rattle.sre_commands.proofs.RequestLemmas.{one_request}
use Rattle.sre_commands.proofs.laws.one_request_for_one_text.Goals as goal

pub returns : goal.returns
returns c = one_request
