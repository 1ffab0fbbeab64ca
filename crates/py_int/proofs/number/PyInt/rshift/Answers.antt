use Rattle.std.proofs.Common.{Ok, FitsSigned, arith, ap, ◌∙◌}
use Rattle.std.specs.Int.{w128}
use Rattle.std.proofs.lemmas.Int.{ints, to_z-of_z}
use Rattle.py_int.specs.Shift.{shifted_right}
use Rattle.py_int.proofs.ShiftLemmas.{all_out_by}
use Rattle.py_int.proofs.number.PyInt.rshift.Goals as goal

pub returns-then-count-gt-VALUE_BITS-clause-value : goal.returns-then-count-gt-VALUE_BITS-clause-value
returns-then-count-gt-VALUE_BITS-clause-value c = λ h.
    let f : FitsSigned w128 c.as_i128.result = record { sfits = c.as_i128.type_inv } in
    rw (← c.as_i128-count.ensures, ← c.as_i128.ensures) (ap Ok (c.down.ensures ∙ ap (λ v. shifted_right v 127) (to_z-of_z w128 c.as_i128.result f) ∙ all_out_by c.as_i128.result c.as_i128-count.result f (omega (arith, ints))))
