use Rattle.std.proofs.Common.{◌≡◌, length}
use Rattle.sre_match.specs.Branches as spec
use Rattle.sre_match.proofs.matcher.branches.left_of.Given as goal

abbrev pub invariant-loop-left : goal.invariant-loop-left
invariant-loop-left l = spec.left_of l.left l.unit ≡ spec.left_of l.trees l.unit

abbrev pub decreases-loop-left : goal.decreases-loop-left
decreases-loop-left l = length l.left
