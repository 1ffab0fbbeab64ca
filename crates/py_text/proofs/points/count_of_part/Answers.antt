use Rattle.py_text.proofs.AsciiLemmas.{ascii_count}
use Rattle.py_text.proofs.points.count_of_part.Goals as goal

pub returns-then-ascii : goal.returns-then-ascii
returns-then-ascii c = ascii_count c.args.part.now c.utf8.part (c.requires c.if-ascii.true)
