use Rattle.std.proofs.Common.{rules, ◌≡◌, Err}
use Rattle.py_base.specs.declared.error.PyError.TheVariants.{InvalidCode}
use Rattle.py_sre.proofs.pattern.compile.Goals as goal

pub returns-in_err-code-clause-invalid : goal.returns-in_err-code-clause-invalid
returns-in_err-code-clause-invalid c = λ h t s.
    let i : c.checked_code.result ≡ Err InvalidCode = search rules in
    c.checked_code.ensures.invalid i t s
