use Rattle.std.proofs.Common.{◌≡◌, ◌∙◌, ap, sym, ◌++◌}
use Rattle.py_value.proofs.PrintingLemmas.{one_ends, others_end}
use Rattle.py_value.proofs.printing.parts.put_tuple_end.Goals as goal

pub returns-then-len-eq1-clause-ok : goal.returns-then-len-eq1-clause-ok
returns-then-len-eq1-clause-ok c = rw (one_ends c.args.list.now (sym c.if-len-eq1.true ∙ c.len.ensures)) c.append_ascii.ensures.ok

pub returns-else-len-eq1-clause-ok : goal.returns-else-len-eq1-clause-ok
returns-else-len-eq1-clause-ok c = rw (others_end c.args.list.now (rw c.len.ensures at c.if-len-eq1.false)) c.append_ascii-else-len-eq1.ensures.ok
