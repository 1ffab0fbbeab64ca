use Rattle.std.proofs.Common.{◌≡◌, ℕ, ◌+◌, ◌*◌, ◌≤◌}
use Rattle.py_value.specs.Plain.{depth}
use Rattle.py_value.specs.Weight.{weight}
use Rattle.py_value.specs.ValueView.{plain_of}
use Rattle.py_value.proofs.+drops.Given as goal

abbrev pub decreases-drops::take_apart : goal.decreases-drops::take_apart
decreases-drops::take_apart l = goal.size-drops::take_apart l

abbrev pub decreases-value::PyDict::drop : goal.decreases-value::PyDict::drop
decreases-value::PyDict::drop l = goal.size-value::PyDict::drop l

abbrev pub decreases-value::ValueList::drop : goal.decreases-value::ValueList::drop
decreases-value::ValueList::drop l = goal.size-value::ValueList::drop l

abbrev pub invariant-value::PyDict::drop-loop-value : goal.invariant-value::PyDict::drop-loop-value
invariant-value::PyDict::drop-loop-value l = goal.no_deeper-value::PyDict::drop-loop-value l

abbrev pub decreases-value::PyDict::drop-loop-value : goal.decreases-value::PyDict::drop-loop-value
decreases-value::PyDict::drop-loop-value l = goal.left-value::PyDict::drop-loop-value l

abbrev pub invariant-value::ValueList::drop-loop-value :
    goal.invariant-value::ValueList::drop-loop-value
invariant-value::ValueList::drop-loop-value l = goal.no_deeper-value::ValueList::drop-loop-value l

abbrev pub decreases-value::ValueList::drop-loop-value :
    goal.decreases-value::ValueList::drop-loop-value
decreases-value::ValueList::drop-loop-value l = goal.left-value::ValueList::drop-loop-value l

abbrev pub invariant-drops::take_apart-loop-here : goal.invariant-drops::take_apart-loop-here
invariant-drops::take_apart-loop-here l = depth (plain_of l.fn.value) ≡ 0 → (depth (plain_of l.here) ≡ 0) × (depth (plain_of l.above) ≡ 0)

abbrev pub decreases-drops::take_apart-loop-here : goal.decreases-drops::take_apart-loop-here
decreases-drops::take_apart-loop-here l = (weight (plain_of l.here) + weight (plain_of l.above)) * (weight (plain_of l.here) + weight (plain_of l.above)) + weight (plain_of l.here)
