use Rattle.py_text.proofs.TextLemmas.{prefixes_first}
use Rattle.py_text.proofs.laws.text_prefixes_come_first.Goals as goal

pub returns : goal.returns
returns c = prefixes_first
