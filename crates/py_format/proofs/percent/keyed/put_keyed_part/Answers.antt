use Rattle.py_format.proofs.OutcomeLemmas.{literal_keyed}
use Rattle.py_format.proofs.percent.keyed.put_keyed_part.Goals as goal

pub returns-in-Literal : goal.returns-in-Literal
returns-in-Literal g c = literal_keyed _ _ c.args.part.now _ _ _ _ c.put_literal.result _ c.in-Literal.is c.put_literal.ensures.ok c.put_literal.ensures.err
