use Rattle.std.proofs.Common.{◌≡◌, ◌∙◌}
use Rattle.std.proofs.lemmas.Result.{err_from_is_err_and}
use Rattle.py_value.proofs.TranslateLemmas.{translated, not_tested}
use Rattle.py_value.proofs.translate.translate.Goals as goal

pub returns-in_err-test_items-clause-translates : goal.returns-in_err-test_items-clause-translates
returns-in_err-test_items-clause-translates g c =
    let p = err_from_is_err_and c.from_residual.result c.from_residual.ensures.1 in
    rw (p.1, p.2) (not_tested c.in_err-test_items.ensures.has)

pub returns-in_err-put_all-clause-translates : goal.returns-in_err-put_all-clause-translates
returns-in_err-put_all-clause-translates g c =
    let p = err_from_is_err_and c.from_residual-in_err-put_all.result c.from_residual-in_err-put_all.ensures.1 in
    rw (p.1, p.2) (translated c.in_ok-test_items.ensures.has (rw (c.in_ok-out.ensures.ok, c.as_str.ensures.value) at c.in_err-put_all.ensures.goes_on))

pub returns-clause-translates : goal.returns-clause-translates
returns-clause-translates g c =
    translated c.in_ok-test_items.ensures.has (rw (c.in_ok-out.ensures.ok, c.as_str.ensures.value) at c.in_ok-put_all.ensures.goes_on)
