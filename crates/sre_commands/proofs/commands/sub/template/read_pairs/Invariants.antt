use Rattle.std.proofs.Common.{length, map}
use Rattle.sre_commands.specs.Commands.Sub.Template.{pair_of}
use Rattle.sre_commands.proofs.LeftLemmas.{PairsLeft}
use Rattle.sre_commands.proofs.commands.sub.template.read_pairs.Given as goal

abbrev pub invariant-loop-alloc : goal.invariant-loop-alloc
invariant-loop-alloc l = PairsLeft l.groups l.bytes (map pair_of l.pairs.items) l.rest

abbrev pub decreases-loop-alloc : goal.decreases-loop-alloc
decreases-loop-alloc l = length l.rest
