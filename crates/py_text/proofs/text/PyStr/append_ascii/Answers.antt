use Rattle.std.proofs.Common.{ap, sym, length}
use Rattle.py_text.proofs.PointLemmas.{chars_ascii}
use Rattle.py_text.proofs.text.PyStr.append_ascii.Goals as goal

pub append_counted-requires : goal.append_counted-requires
append_counted-requires c = sym (ap length (chars_ascii c.args.run.now c.requires))

pub returns-clause-ok : goal.returns-clause-ok
returns-clause-ok c = rw (chars_ascii c.args.run.now c.requires) at c.append_counted.ensures.ok
