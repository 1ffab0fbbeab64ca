use Rattle.std.proofs.Common.{length}
use Rattle.sre_code.proofs.LeftLemmas.{ItemsLeft}
use Rattle.sre_code.proofs.decoding.sets.read_items.Given as goal

abbrev pub invariant-loop-alloc : goal.invariant-loop-alloc
invariant-loop-alloc l = ItemsLeft l.words l.items l.rest

abbrev pub decreases-loop-alloc : goal.decreases-loop-alloc
decreases-loop-alloc l = length l.rest
