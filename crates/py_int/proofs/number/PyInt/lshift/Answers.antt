use Rattle.std.proofs.Common.{arith}
use Rattle.std.proofs.lemmas.Int.{ints}
use Rattle.py_int.proofs.ShiftLemmas.{refused_up}
use Rattle.py_int.proofs.number.PyInt.lshift.Goals as goal

pub returns-then-count-gt-VALUE_BITS-clause-value : goal.returns-then-count-gt-VALUE_BITS-clause-value
returns-then-count-gt-VALUE_BITS-clause-value c = λ h.
    rw (← c.as_i128-count.ensures, ← c.as_i128-value.ensures) (refused_up c.as_i128-value.result c.as_i128-count.result c.if-value-eq0.false (omega (arith, ints)))
