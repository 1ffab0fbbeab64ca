use Rattle.std.proofs.Common.{◌∙◌, Ok}
use Rattle.std.proofs.lemmas.Result.{err_from_is_err_and}
use Rattle.py_value.specs.Asking.{gives}
use Rattle.py_value.proofs.AskingLemmas.{go_on, stop, out_of_memory}
use Rattle.std.proofs.Common.{encode_utf8_all}
use Rattle.py_spec.specs.Percent.Writing.{number_text}
use Rattle.py_format.proofs.OutcomeLemmas.{done}
use Rattle.py_format.proofs.percent.binary.number_bytes.Goals as goal

pub returns-in_err-number : goal.returns-in_err-number
returns-in_err-number g c =
    let p = err_from_is_err_and c.from_residual.result c.from_residual.ensures.1 in
    rw (p.1, p.2) (stop (λ z. gives (Ok (encode_utf8_all (number_text c.args.asked.now z)))) c.in_err-number.ensures)

pub returns-in_err-text : goal.returns-in_err-text
returns-in_err-text g c =
    let p = err_from_is_err_and c.from_residual-in_err-text.result c.from_residual-in_err-text.ensures.1 in
    rw (p.1, p.2 ∙ c.in_err-text.ensures.err) (go_on (λ z. gives (Ok (encode_utf8_all (number_text c.args.asked.now z)))) c.in_ok-number.ensures out_of_memory)

pub returns : goal.returns
returns g c =
    go_on (λ z. gives (Ok (encode_utf8_all (number_text c.args.asked.now z)))) c.in_ok-number.ensures (rw (← c.in_ok-text.ensures.ok) (done _ _ _ c.bytes_of_text.ensures.ok c.bytes_of_text.ensures.err))
