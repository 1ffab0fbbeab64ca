use Rattle.std.proofs.Common.{◌≡◌, pos, neg_ℤ, sym, ap, ◌∙◌}
use Rattle.py_int.specs.Number.{carried}
use Rattle.py_int.specs.Divide.{floor_div, rounded_up}
use Rattle.py_int.proofs.DivideLemmas.{floor_up}
use Rattle.py_int.proofs.divide.floor_from.Goals as goal

pub returns-then-signs_differ : goal.returns-then-signs_differ
returns-then-signs_differ c =
    let a = c.args.a in
    let b = c.args.b in
    let e : neg_ℤ (pos (rounded_up c.args.quotient c.args.rest)) ≡ floor_div a b =
    rw (c.requires.quotient, c.requires.rest) (floor_up a b c.requires.some (sym c.if-signs_differ.true ∙ c.signs_differ.ensures)) in
    c.give_sign.ensures ∙ ap (λ s. carried (neg_ℤ (pos s))) c.rounded_up.ensures ∙ ap carried e
