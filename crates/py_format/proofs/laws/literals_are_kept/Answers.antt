use Rattle.py_format.proofs.LiteralLemmas.{template_kept}
use Rattle.py_format.proofs.laws.literals_are_kept.Goals as goal

pub returns : goal.returns
returns c = template_kept
