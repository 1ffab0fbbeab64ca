use Rattle.py_str.proofs.ColumnLemmas.{only_tabs}
use Rattle.py_str.proofs.laws.only_tabs_change.Goals as goal

pub returns : goal.returns
returns c = only_tabs
