use Rattle.std.proofs.Common.{length}
use Rattle.re_parse.proofs.ItemLemmas.{ItemsLeft}
use Rattle.re_parse.proofs.reading.sets.items.Given as goal

abbrev pub invariant-turns : goal.invariant-turns
invariant-turns l = ItemsLeft l.text l.ascii l.items.items l.first l.rest

abbrev pub decreases-turns : goal.decreases-turns
decreases-turns l = length l.rest
