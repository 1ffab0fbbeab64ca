use Rattle.std.proofs.Common.{◌≡◌, ◌∙◌, ap, ◌++◌, Some, None, Ok}
use Rattle.py_value.specs.Asking.{gives}
use Rattle.py_value.specs.Printing.{handle_after}
use Rattle.py_value.proofs.AskingLemmas.{asked, asked_in_vain, asks_nothing}
use Rattle.py_value.proofs.printing.values.put_handle.Goals as goal

pub returns-in-Ok-Some : goal.returns-in-Ok-Some
returns-in-Ok-Some g c =
    asked {next = λ a. gives (handle_after c.args.out.now c.args.handle a)} {a = Some c.in-Ok-Some.answer} (rw c.in-Ok-Some.field-0-is at c.in-Ok-Some.ensures) (asks_nothing c.put_text.ensures)

pub returns-in-Err-Failed : goal.returns-in-Err-Failed
returns-in-Err-Failed g c = asked_in_vain (rw c.in-Err-Failed.field-0-is at c.in-Err-Failed.ensures)
