use Rattle.sre_match.proofs.DeadLemmas.{early_places_fail}
use Rattle.sre_match.proofs.laws.early_places_fail.Goals as goal

pub returns : goal.returns
returns c = early_places_fail
