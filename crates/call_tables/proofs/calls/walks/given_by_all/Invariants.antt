use Rattle.std.proofs.Common.{◌≡◌, drop}
use Rattle.std.specs.Vec.{vec_items}
use Rattle.call_tables.specs.Walks.{walk}
use Rattle.call_tables.proofs.WalkLemmas.{after_given}
use Rattle.call_tables.proofs.calls.walks.given_by_all.Given as goal

abbrev pub invariant-loop-step : goal.invariant-loop-step
invariant-loop-step l = walk l.initial.walker l.steps ≡ after_given (vec_items l.given) (walk l.walker (drop l.step-index l.steps))
