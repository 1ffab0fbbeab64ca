use Rattle.std.proofs.Common.{ap, length, chars, arith}
use Rattle.py_text.proofs.PointLemmas.{places_of_same, points_parted}
use Rattle.py_text.proofs.occurrences.places_before.Goals as goal

pub returns-then-count-text : goal.returns-then-count-text
returns-then-count-text c = places_of_same c.args.text.now c.args.count c.args.at c.utf8.text c.requires.counted c.if-count-text.true c.requires.boundary.0

pub overflow_sub-result : goal.overflow_sub-result
overflow_sub-result c = omega (arith, c.count_points-else-at-text.ensures, ap (λ l. length (chars l)) c.range_from.ensures.value, points_parted c.args.text.now c.args.at c.utf8.text c.requires.boundary, c.requires.counted)

pub returns-else-at-text : goal.returns-else-at-text
returns-else-at-text c = omega (arith, c.count_points-else-at-text.ensures, ap (λ l. length (chars l)) c.range_from.ensures.value, points_parted c.args.text.now c.args.at c.utf8.text c.requires.boundary, c.requires.counted)
