use Rattle.std.proofs.Common.{rules, ◌<◌, ◌^◌, ap, length, arith}
use Rattle.py_text.proofs.PointLemmas.{points_at_most}
use Rattle.py_text.proofs.search.between.Goals as goal

pub returns-then-to-from-clause-bound : goal.returns-then-to-from-clause-bound
returns-then-to-from-clause-bound c =
    let small : length c.as_str-whole.result.now < 2 ^ 63 = search rules in
    omega (arith, small, points_at_most c.as_str-whole.result.now c.as_str-whole.utf8, ap length c.as_str-whole.ensures.value)

pub returns-clause-bound : goal.returns-clause-bound
returns-clause-bound c =
    let small : length c.as_str-whole.result.now < 2 ^ 63 = search rules in
    omega (arith, small, points_at_most c.as_str-whole.result.now c.as_str-whole.utf8, ap length c.as_str-whole.ensures.value)
