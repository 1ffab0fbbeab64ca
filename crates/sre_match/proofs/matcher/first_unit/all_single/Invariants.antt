use Rattle.std.proofs.Common.{◌≡◌, length}
use Rattle.sre_match.specs.FirstUnit as spec
use Rattle.sre_match.proofs.matcher.first_unit.all_single.Given as goal

abbrev pub invariant-loop-left : goal.invariant-loop-left
invariant-loop-left l = spec.all_single l.left ≡ spec.all_single l.trees

abbrev pub decreases-loop-left : goal.decreases-loop-left
decreases-loop-left l = length l.left
