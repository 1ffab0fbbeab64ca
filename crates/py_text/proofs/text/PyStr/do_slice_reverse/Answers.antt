use Rattle.std.proofs.Common.{reverse, slice_range}
use Rattle.py_text.proofs.StrideLemmas.{every_one}
use Rattle.py_text.proofs.text.PyStr.do_slice_reverse.Goals as goal

pub returns-clause-ok : goal.returns-clause-ok
returns-clause-ok c = rw (← every_one (reverse (slice_range c.args.self.now c.args.range.start c.args.range.end))) c.do_stepped_slice_reverse.ensures.ok
