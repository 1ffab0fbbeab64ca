use Rattle.std.proofs.Common.{◌∙◌, ap, refl}
use Rattle.py_value.specs.Weight.{weight}
use Rattle.py_value.specs.ValueView.{plain_of}
use Rattle.py_value.proofs.WeightLemmas.{climbs, weighs}
use Rattle.py_value.proofs.+drops.Goals as goal

pub drops::take_apart-loop-here-smaller : goal.drops::take_apart-loop-here-smaller
drops::take_apart-loop-here-smaller t c =
    climbs (weight (plain_of c.loop-here.here)) (weight (plain_of c.loop-here.above)) (weight (plain_of c.pop_last.new.self)) (weight (plain_of c.in-Some.holder)) (weighs (plain_of c.loop-here.here)) (c.in-Some.ensures.total ∙ ap (λ v. weight (plain_of v)) (c.if-exchange_last.ensures.same refl))
