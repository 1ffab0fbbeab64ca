use Rattle.std.proofs.Common.{Ok}
use Rattle.std.proofs.lemmas.Result.{err_from_is_err_and}
use Rattle.py_value.specs.Asking.{gives}
use Rattle.py_value.proofs.AskingLemmas.{go_on, stop}
use Rattle.py_spec.specs.Percent.Writing.{string_units}
use Rattle.py_format.proofs.OutcomeLemmas.{done}
use Rattle.py_format.proofs.percent.texts.string_text.Goals as goal

pub returns-in_err-shown : goal.returns-in_err-shown
returns-in_err-shown g c =
    let p = err_from_is_err_and c.from_residual.result c.from_residual.ensures.1 in
    rw (p.1, p.2) (stop (λ t. gives (Ok (string_units c.args.asked.now t))) c.in_err-shown.ensures)

pub returns : goal.returns
returns g c =
    go_on (λ t. gives (Ok (string_units c.args.asked.now t))) c.in_ok-shown.ensures (done _ _ _ c.format_string.ensures.ok c.format_string.ensures.err)
