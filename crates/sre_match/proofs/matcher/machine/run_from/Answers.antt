use Rattle.std.proofs.Common.{sym}
use Rattle.sre_match.proofs.ProgressLemmas.{less_ends}
use Rattle.sre_match.proofs.matcher.machine.run_from.Goals as goal

pub returns-in-Found-clause-found : goal.returns-in-Found-clause-found
returns-in-Found-clause-found g c = sym (less_ends _ _ _ _ _ _ _ c.loop-turn.invariant.less (rw c.in-Found.is at c.next_turn.ensures.progress)).same

pub returns-in-Found-clause-cost : goal.returns-in-Found-clause-cost
returns-in-Found-clause-cost g c = (less_ends _ _ _ _ _ _ _ c.loop-turn.invariant.less (rw c.in-Found.is at c.next_turn.ensures.progress)).cost

pub returns-in-Nothing-clause-found : goal.returns-in-Nothing-clause-found
returns-in-Nothing-clause-found g c = sym (less_ends _ _ _ _ _ _ _ c.loop-turn.invariant.less (rw c.in-Nothing.is at c.next_turn.ensures.progress)).same

pub returns-in-Nothing-clause-cost : goal.returns-in-Nothing-clause-cost
returns-in-Nothing-clause-cost g c = (less_ends _ _ _ _ _ _ _ c.loop-turn.invariant.less (rw c.in-Nothing.is at c.next_turn.ensures.progress)).cost
