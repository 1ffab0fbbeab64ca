use Rattle.py_intern.proofs.ListLemmas.{stays_distinct}
use Rattle.py_intern.proofs.laws.pools_stay_distinct.Goals as goal

pub returns : goal.returns
returns c = stays_distinct
