use Rattle.std.proofs.Common.{Some, None, refl}
use Rattle.std.specs.Prelude.{ok_or}
use Rattle.py_base.specs.declared.error.PyError.TheVariants.{NoAttribute}
use Rattle.py_base.specs.declared.error.type_names.ClassName.TheVariants.{Object}
use Rattle.py_value.specs.Asking.{gives}
use Rattle.py_value.proofs.AskingLemmas.{asked, asked_in_vain, asks_nothing}
use Rattle.py_value.proofs.lookup.handle_attr.Goals as goal

pub returns-in-Ok-Some-clause-answers : goal.returns-in-Ok-Some-clause-answers
returns-in-Ok-Some-clause-answers g c =
    asked {next = λ found. gives (ok_or found (NoAttribute Object))} {a = Some c.in-Ok-Some.value} (rw c.in-Ok-Some.field-0-is at c.in-Ok-Some.ensures) (asks_nothing refl)

pub returns-in-Ok-None-clause-answers : goal.returns-in-Ok-None-clause-answers
returns-in-Ok-None-clause-answers g c =
    asked {next = λ found. gives (ok_or found (NoAttribute Object))} {a = None} (rw c.in-Ok-None.field-0-is at c.in-Ok-None.ensures) (asks_nothing refl)

pub returns-in-Err-Failed-clause-answers : goal.returns-in-Err-Failed-clause-answers
returns-in-Err-Failed-clause-answers g c = asked_in_vain (rw c.in-Err-Failed.field-0-is at c.in-Err-Failed.ensures)
