use Rattle.std.proofs.Common.{◌-◌, length, drop, arith}
use Rattle.std.proofs.Math.Seq.{take-add}
use Rattle.std.proofs.lemmas.List.{length-take, length-drop}
use Rattle.sre_commands.proofs.StreamLemmas.{rest_whole}
use Rattle.sre_commands.proofs.StreamLemmas.{Appends-then}
use Rattle.sre_commands.proofs.streams.write_all.Goals as goal

pub loop-written-preserved : goal.loop-written-preserved
loop-written-preserved g c = record {
  written = rw (take-add c.loop-written.written c.in_ok-count.count c.args.bytes.now) (Appends-then _ _ _ _ _ c.loop-written.invariant.written (rw rest_whole at c.in_ok-count.ensures.bytes));
  later = omega (arith, c.write.ensures.cause.later);
  within = omega (arith, c.in_ok-count.ensures.bound, length-take (length c.args.bytes.now - c.loop-written.written) (drop c.loop-written.written c.args.bytes.now), length-drop c.loop-written.written c.args.bytes.now);
}
