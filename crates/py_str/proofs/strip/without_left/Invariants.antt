use Rattle.std.proofs.Common.{length}
use Rattle.std.specs.Str.Iter.{chars_rest}
use Rattle.py_str.specs.Strip.{strips}
use Rattle.py_str.specs.Passing.{IsPassed}
use Rattle.py_str.proofs.strip.without_left.Given as goal

abbrev pub invariant-chars : goal.invariant-chars
invariant-chars l = IsPassed (strips l.named) l.text (chars_rest l.rest) l.at

abbrev pub decreases-chars : goal.decreases-chars
decreases-chars l = length (chars_rest l.rest)
