use Rattle.std.proofs.Common.{◌-◌, length}
use Rattle.re_parse.specs.EndedGroups.{SayTheSame}
use Rattle.re_parse.proofs.ended_groups.extended.Given as goal

abbrev pub invariant-places : goal.invariant-places
invariant-places l = SayTheSame l.fn.ended.items l.longer.items

abbrev pub decreases-places : goal.decreases-places
decreases-places l = l.count - length l.longer.items
