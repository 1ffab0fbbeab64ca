use Rattle.py_text.proofs.PlaceLemmas.{no_more_places}
use Rattle.py_text.proofs.laws.slices_take_no_more_places.Goals as goal

pub returns : goal.returns
returns c = no_more_places
