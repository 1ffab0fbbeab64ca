use Rattle.sre_commands.proofs.RequestLemmas.{one_text}
use Rattle.sre_commands.proofs.laws.no_text_begins_another.Goals as goal

pub returns : goal.returns
returns c = λ r q more h k e. (one_text r q more h k e).1
