use Rattle.std.proofs.Common.{Ok, ◌++◌}
use Rattle.std.proofs.lemmas.Result.{err_from_is_err_and}
use Rattle.py_value.specs.Asking.{gives}
use Rattle.py_value.proofs.AskingLemmas.{go_on, stop}
use Rattle.py_format.proofs.OutcomeLemmas.{put_done}
use Rattle.py_format.proofs.percent.texts.put_value.Goals as goal

pub returns-in_err-text : goal.returns-in_err-text
returns-in_err-text g c =
    let p = err_from_is_err_and c.from_residual.result c.from_residual.ensures.1 in
    rw (p.1, p.2) (stop (λ t. gives (Ok (c.args.out.now ++ t))) c.in_err-text.ensures)

pub returns : goal.returns
returns g c =
    go_on (λ t. gives (Ok (c.args.out.now ++ t))) c.in_ok-text.ensures (put_done c.append_text.result _ _ _ c.append_text.ensures.ok c.append_text.ensures.err)
