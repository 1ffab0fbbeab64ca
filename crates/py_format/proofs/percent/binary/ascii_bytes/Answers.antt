use Rattle.std.proofs.Common.{Ok}
use Rattle.std.proofs.lemmas.Result.{err_from_is_err_and}
use Rattle.py_value.specs.Asking.{gives}
use Rattle.py_value.proofs.AskingLemmas.{go_on, stop}
use Rattle.std.proofs.Common.{encode_utf8_all}
use Rattle.py_format.proofs.OutcomeLemmas.{done}
use Rattle.py_format.proofs.percent.binary.ascii_bytes.Goals as goal

pub returns-in_err-text : goal.returns-in_err-text
returns-in_err-text g c =
    let p = err_from_is_err_and c.from_residual.result c.from_residual.ensures.1 in
    rw (p.1, p.2) (stop (λ t. gives (Ok (encode_utf8_all t))) c.in_err-text.ensures.answers)

pub returns : goal.returns
returns g c =
    go_on (λ t. gives (Ok (encode_utf8_all t))) c.in_ok-text.ensures.answers (done _ _ _ c.bytes_of_text.ensures.ok c.bytes_of_text.ensures.err)
