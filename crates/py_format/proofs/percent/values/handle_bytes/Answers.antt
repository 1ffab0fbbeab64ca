use Rattle.std.proofs.Common.{Some}
use Rattle.py_value.specs.Asking.{gives}
use Rattle.py_value.proofs.AskingLemmas.{asked, asked_in_vain, asks_nothing, met}
use Rattle.py_format.specs.Percent.Values.{told_bytes}
use Rattle.py_format.proofs.percent.values.handle_bytes.Goals as goal

pub returns-in-Ok-Some : goal.returns-in-Ok-Some
returns-in-Ok-Some g c =
    asked {next = λ a. gives (told_bytes c.args.handle a)} {a = Some c.in-Ok-Some.answer} (rw c.in-Ok-Some.field-0-is at c.in-Ok-Some.ensures) (asks_nothing (met c.told_bytes.ensures))

pub returns-in-Err-Failed : goal.returns-in-Err-Failed
returns-in-Err-Failed g c = asked_in_vain (rw c.in-Err-Failed.field-0-is at c.in-Err-Failed.ensures)
