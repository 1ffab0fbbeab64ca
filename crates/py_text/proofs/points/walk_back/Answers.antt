use Rattle.std.proofs.Common.{arith}
use Rattle.py_text.proofs.StartLemmas.{starts_back}
use Rattle.py_text.proofs.points.walk_back.Goals as goal

pub walk-preserved : goal.walk-preserved
walk-preserved c = record {
  inside = omega (arith, c.walk-test.true, c.walk.invariant.inside);
  count = omega (arith, starts_back c.args.bytes.now c.walk.place c.args.size c.walk-test.true, c.starts_in_block.ensures, c.from-starts.ensures, c.if-starts-more.false, c.walk.invariant.count);
  end = λ none. absurd (omega (arith, none, c.from-starts.ensures, c.if-starts-more.false));
}
