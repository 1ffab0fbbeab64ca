use Rattle.py_value.proofs.PrintingLemmas.{comma_later}
use Rattle.py_value.proofs.printing.parts.put_comma.Goals as goal

pub returns-clause-ok : goal.returns-clause-ok
returns-clause-ok c = rw (comma_later c.args.i c.if-i-eq0.false) c.append_ascii.ensures.ok
