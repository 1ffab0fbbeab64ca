use Rattle.std.proofs.Common.{arith}
use Rattle.py_text.proofs.StartLemmas.{starts_on}
use Rattle.py_text.proofs.points.walk_on.Goals as goal

pub walk-preserved : goal.walk-preserved
walk-preserved c = record {
  inside = omega (arith, c.walk-test.true, c.walk.invariant.inside);
  count = omega (arith, starts_on c.args.bytes.now c.walk.place c.args.size, c.starts_in_block.ensures, c.from-starts.ensures, c.if-starts-more.false, c.walk.invariant.count);
}
