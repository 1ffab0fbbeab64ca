use Rattle.py_format.proofs.StayLemmas.{written_stays}
use Rattle.py_format.proofs.laws.written_text_stays.Goals as goal

pub returns : goal.returns
returns c = written_stays
