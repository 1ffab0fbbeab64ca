use Rattle.std.proofs.Common.{◌≡◌, ◌∙◌, refl}
use Rattle.std.proofs.lemmas.Result.{err_from_is_err_and}
use Rattle.std.proofs.lemmas.Str.{IsUtf8-past_char}
use Rattle.std.specs.Str.Iter.{chars_rest}
use Rattle.py_value.proofs.TranslateLemmas.{turn, stop_turn, last_turn}
use Rattle.py_value.proofs.translate.put_all.Goals as goal

pub chars-init : goal.chars-init
chars-init g c = rw c.chars-rest.ensures.rest (record { utf8 = c.utf8.text; whole = λ r new h. h; quiet = λ h. refl })

pub chars-preserved : goal.chars-preserved
chars-preserved g c = record {
  utf8 = IsUtf8-past_char _ _ c.in-Some.c c.chars.invariant.utf8 c.in-Some.ensures.steps.0;
  quiet = λ h. c.in_ok-put_looked_up.ensures.quiet h ∙ c.chars.invariant.quiet h;
  whole = λ r new h. c.chars.invariant.whole r new (turn _ _ _ c.in-Some.c _ _ _ _ _ r c.chars.invariant.utf8 c.in-Some.ensures.steps.0 c.in_ok-put_looked_up.ensures.puts h);
}

pub returns-in_err-put_looked_up-clause-goes_on : goal.returns-in_err-put_looked_up-clause-goes_on
returns-in_err-put_looked_up-clause-goes_on g c =
    let p = err_from_is_err_and c.from_residual.result c.from_residual.ensures.1 in
    rw (p.1, p.2) (c.chars.invariant.whole _ _ (stop_turn _ _ _ c.in-Some.c _ _ _ _ c.chars.invariant.utf8 c.in-Some.ensures.steps.0 c.in_err-put_looked_up.ensures.puts))

pub returns-clause-goes_on : goal.returns-clause-goes_on
returns-clause-goes_on g c = c.chars.invariant.whole _ _ (last_turn _ _ _ _ (rw c.in_default.is at c.next.ensures.steps.0).0)
