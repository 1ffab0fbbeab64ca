use Rattle.py_str.proofs.ColumnLemmas.{no_change}
use Rattle.py_str.proofs.laws.no_tab_no_change.Goals as goal

pub returns : goal.returns
returns c = no_change
