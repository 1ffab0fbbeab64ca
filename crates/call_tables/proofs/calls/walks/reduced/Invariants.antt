use Rattle.std.proofs.Common.{◌≡◌}
use Rattle.call_tables.specs.Walks.{start_of, after_steps}
use Rattle.call_tables.proofs.calls.walks.reduced.Given as goal

abbrev pub invariant-loop-i : goal.invariant-loop-i
invariant-loop-i l = l.walker ≡ after_steps l.i (start_of l.subject)
