use Rattle.sre_match.proofs.DeadLemmas.{unmet_first_unit_fails}
use Rattle.sre_match.proofs.laws.unmet_first_unit_fails.Goals as goal

pub returns : goal.returns
returns c = unmet_first_unit_fails
