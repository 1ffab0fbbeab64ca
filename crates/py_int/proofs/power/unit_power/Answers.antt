use Rattle.std.proofs.Common.{◌≡◌, ◌≤ℤ◌, ◌<ℤ◌, pos, to_z, of_z, ◌∙◌, arith}
use Rattle.std.specs.Int.{w128}
use Rattle.std.proofs.lemmas.Int.{ints, to_z-of_z}
use Rattle.py_int.proofs.PowerLemmas.{unit_pos, unit_even, unit_odd}
use Rattle.py_int.proofs.power.unit_power.Goals as goal

pub returns-then-value-ge0 : goal.returns-then-value-ge0
returns-then-value-ge0 c =
    let z : to_z w128 (of_z w128 c.args.value) ≡ c.args.value = to_z-of_z w128 c.args.value c.ranges.value in
    let up : pos 0 ≤ℤ c.args.value = omega (arith, ints) in
    c.from-then-value-ge0.ensures ∙ z ∙ unit_pos c.args.value c.args.exp up c.requires c.if-exp-eq0.false

pub returns-then-exp-eq0-2 : goal.returns-then-exp-eq0-2
returns-then-exp-eq0-2 c =
    let below : c.args.value <ℤ pos 0 = omega (arith, ints) in
    c.from-then-exp-eq0-2.ensures ∙ unit_even c.args.value c.args.exp below c.requires c.if-exp-eq0-2.true

pub returns-else-exp-eq0-2 : goal.returns-else-exp-eq0-2
returns-else-exp-eq0-2 c =
    let below : c.args.value <ℤ pos 0 = omega (arith, ints) in
    c.from-else-exp-eq0-2.ensures ∙ unit_odd c.args.value c.args.exp below c.requires c.if-exp-eq0-2.false
