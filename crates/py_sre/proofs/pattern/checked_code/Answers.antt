use Rattle.std.proofs.Common.{refl}
use Rattle.py_sre.proofs.pattern.checked_code.Goals as goal

pub returns-in-Err-InvalidCode-clause-invalid : goal.returns-in-Err-InvalidCode-clause-invalid
returns-in-Err-InvalidCode-clause-invalid c = λ _. c.in-Err-InvalidCode.ensures.invalid (rw c.in-Err-InvalidCode.field-0-is refl)
