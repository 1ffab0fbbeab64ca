use Rattle.std.proofs.Common.{◌≡◌, Ok}
use Rattle.std.proofs.lemmas.Result.{err_from_is_err_and}
use Rattle.py_value.specs.Asking.{gives}
use Rattle.py_value.specs.Printing.{repr_of, escaped}
use Rattle.py_value.specs.ValueView.{plain_of}
use Rattle.py_value.proofs.AskingLemmas.{go_on, stop, asks_nothing}
use Rattle.py_value.proofs.QuietLemmas.{begins_silent}
use Rattle.py_value.proofs.printing.ascii_of.Goals as goal

pub returns-in_err-text-clause-answers : goal.returns-in_err-text-clause-answers
returns-in_err-text-clause-answers g c =
    let p = err_from_is_err_and c.from_residual.result c.from_residual.ensures.1 in
    rw (p.1, p.2) (stop (λ t. gives (Ok (escaped t))) c.in_err-text.ensures.answers)

pub returns-clause-answers : goal.returns-clause-answers
returns-clause-answers g c = go_on (λ t. gives (Ok (escaped t))) c.in_ok-text.ensures.answers (asks_nothing c.escaped.ensures)

pub returns-in_err-text-clause-quiet : goal.returns-in_err-text-clause-quiet
returns-in_err-text-clause-quiet g c =
    λ h. c.in_err-text.ensures.quiet (begins_silent (repr_of (plain_of c.args.obj.now)) (λ t. gives (Ok (escaped t))) h)

pub returns-clause-quiet : goal.returns-clause-quiet
returns-clause-quiet g c =
    λ h. c.in_ok-text.ensures.quiet (begins_silent (repr_of (plain_of c.args.obj.now)) (λ t. gives (Ok (escaped t))) h)
