use Rattle.std.proofs.Common.{◌≡◌, ◌++◌}
use Rattle.py_text.specs.Sums.{copies}
use Rattle.py_str.proofs.pushing.push_copies.Given as goal

abbrev pub invariant-loop-n : goal.invariant-loop-n
invariant-loop-n l = l.out ≡ l.initial.out ++ copies l._n l.part
