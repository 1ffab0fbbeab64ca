use Rattle.std.proofs.Common.{◌≡◌, ◌∙◌}
use Rattle.std.proofs.lemmas.Result.{err_from_is_err_and}
use Rattle.py_value.specs.Sides.{fits}
use Rattle.py_value.proofs.AffixLemmas.{fits_next, fits_here, fits_not, none_fits}
use Rattle.py_value.proofs.affix.Place.some_fits.Goals as goal

pub loop-affix-preserved : goal.loop-affix-preserved
loop-affix-preserved c =
    (fits_next (fits c.args.self.now c.args.text.now) c.deref-affix-items.result.now c.loop-affix.affix-index c.affix-item.result c.loop-affix-test.true c.affix-item.is (rw c.if-branch.false at c.in_ok-text_fits.ensures) ∙ c.loop-affix.invariant.0, c.loop-affix.invariant.1)

pub returns-then-branch : goal.returns-then-branch
returns-then-branch c =
    fits_here (fits c.args.self.now c.args.text.now) c.deref-affix-items.result.now c.loop-affix.affix-index c.affix-item.result c.loop-affix-test.true c.affix-item.is (rw c.if-branch.true at c.in_ok-text_fits.ensures) ∙ c.loop-affix.invariant.0

pub returns-in_err-text_fits : goal.returns-in_err-text_fits
returns-in_err-text_fits c =
    let p = err_from_is_err_and c.from_residual.result c.from_residual.ensures.1 in
    rw (p.1, p.2) (fits_not (fits c.args.self.now c.args.text.now) c.deref-affix-items.result.now c.loop-affix.affix-index c.affix-item.result _ c.loop-affix-test.true c.affix-item.is c.in_err-text_fits.ensures ∙ c.loop-affix.invariant.0)

pub returns : goal.returns
returns c = none_fits (fits c.args.self.now c.args.text.now) c.deref-affix-items.result.now c.loop-affix.affix-index c.loop-affix-test.false ∙ c.loop-affix.invariant.0
