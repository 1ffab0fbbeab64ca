use Rattle.py_intern.proofs.ListLemmas.{finds_its_text}
use Rattle.py_intern.proofs.laws.texts_lead_back.Goals as goal

pub returns : goal.returns
returns c = finds_its_text
