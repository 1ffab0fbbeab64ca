use Rattle.py_text.proofs.TextLemmas.{gives_the_rest}
use Rattle.py_text.proofs.laws.iterator_gives_the_rest.Goals as goal

pub returns : goal.returns
returns c = gives_the_rest
