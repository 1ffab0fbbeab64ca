use Rattle.py_intern.proofs.ListLemmas.{new_is_greatest}
use Rattle.py_intern.proofs.laws.new_handle_is_the_greatest.Goals as goal

pub returns : goal.returns
returns c = new_is_greatest
