use Rattle.std.proofs.Common.{◌≡◌, ◌<◌, unsigned_abs, ap, ◌∙◌, arith}
use Rattle.std.specs.Int.{w128}
use Rattle.std.proofs.lemmas.Int.{to_z-of_z}
use Rattle.py_int.proofs.RoundLemmas.{rounds_to_zero}
use Rattle.py_int.proofs.number.PyInt.round_to.Goals as goal

pub returns-then-digits-gt-GREATEST_POWER-clause-cut : goal.returns-then-digits-gt-GREATEST_POWER-clause-cut
returns-then-digits-gt-GREATEST_POWER-clause-cut c = λ h.
    let d : c.unsigned_abs-digits.result ≡ unsigned_abs c.args.ndigits =
    c.unsigned_abs-digits.ensures.value ∙ ap unsigned_abs (to_z-of_z w128 c.as_i128-count.result (record { sfits = c.as_i128-count.type_inv }) ∙ c.as_i128-count.ensures) in
    let p : 38 < unsigned_abs c.args.ndigits = omega arith in
    rw (← c.as_i128-value.ensures, c.from.ensures) (rounds_to_zero c.as_i128-value.result (unsigned_abs c.args.ndigits) (record { sfits = c.as_i128-value.type_inv }) p)
