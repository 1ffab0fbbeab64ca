use Rattle.sre_match.proofs.DeadLemmas.{ruled_out}
use Rattle.sre_match.proofs.laws.ruled_out.Goals as goal

pub returns : goal.returns
returns c = ruled_out
