use Rattle.std.proofs.Common.{◌≡◌, take}
use Rattle.py_text.specs.Replacing.{join}
use Rattle.py_text.proofs.text.PyStr.join.Given as goal

abbrev pub invariant-loop-i : goal.invariant-loop-i
invariant-loop-i l = l.out ≡ join l.self (take l.i l.items)
