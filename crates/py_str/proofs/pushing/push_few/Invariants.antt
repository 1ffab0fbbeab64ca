use Rattle.std.proofs.Common.{◌≡◌, ◌++◌}
use Rattle.py_str.specs.Pad.{run}
use Rattle.py_str.proofs.pushing.push_few.Given as goal

abbrev pub invariant-loop-n : goal.invariant-loop-n
invariant-loop-n l = l.out ≡ l.initial.out ++ run l._n l.c
