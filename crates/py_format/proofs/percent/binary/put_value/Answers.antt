use Rattle.std.proofs.Common.{Ok, ◌++◌}
use Rattle.std.proofs.lemmas.Result.{err_from_is_err_and}
use Rattle.py_value.specs.Asking.{gives}
use Rattle.py_value.proofs.AskingLemmas.{go_on, stop}
use Rattle.py_format.proofs.OutcomeLemmas.{put_done}
use Rattle.py_format.proofs.percent.binary.put_value.Goals as goal

pub returns-in_err-bytes : goal.returns-in_err-bytes
returns-in_err-bytes g c =
    let p = err_from_is_err_and c.from_residual.result c.from_residual.ensures.1 in
    rw (p.1, p.2) (stop (λ t. gives (Ok (c.args.out.now.items ++ t))) c.in_err-bytes.ensures)

pub returns : goal.returns
returns g c =
    go_on (λ t. gives (Ok (c.args.out.now.items ++ t))) c.in_ok-bytes.ensures (rw (← c.as_bytes.ensures) (put_done c.put_bytes.result _ _ _ c.put_bytes.ensures.ok c.put_bytes.ensures.err))
