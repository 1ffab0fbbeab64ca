use Rattle.std.proofs.Common.{Ok}
use Rattle.std.proofs.lemmas.Result.{err_from_is_err_and}
use Rattle.py_value.specs.Asking.{gives}
use Rattle.py_value.proofs.AskingLemmas.{go_on, stop}
use Rattle.py_spec.specs.Percent.Writing.{number_text}
use Rattle.py_format.proofs.OutcomeLemmas.{done}
use Rattle.py_format.proofs.percent.texts.number_text.Goals as goal

pub returns-in_err-number : goal.returns-in_err-number
returns-in_err-number g c =
    let p = err_from_is_err_and c.from_residual.result c.from_residual.ensures.1 in
    rw (p.1, p.2) (stop (λ z. gives (Ok (number_text c.args.asked.now z))) c.in_err-number.ensures)

pub returns : goal.returns
returns g c =
    go_on (λ z. gives (Ok (number_text c.args.asked.now z))) c.in_ok-number.ensures (done _ _ _ c.format_number.ensures.ok c.format_number.ensures.err)
