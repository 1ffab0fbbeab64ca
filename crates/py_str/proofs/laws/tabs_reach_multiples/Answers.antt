use Rattle.py_str.proofs.ColumnLemmas.{tabs_reach}
use Rattle.py_str.proofs.laws.tabs_reach_multiples.Goals as goal

pub returns : goal.returns
returns c = tabs_reach
