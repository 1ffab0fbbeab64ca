use Rattle.py_str.proofs.LawLemmas.{no_tab}
use Rattle.py_str.proofs.laws.no_tab_is_left.Goals as goal

pub returns : goal.returns
returns c = no_tab
