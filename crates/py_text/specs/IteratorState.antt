-- The position that the stored state of an iterator gives.
use Rattle.std.specs.Prelude.{Option, Some, None}
use Rattle.py_text.specs.declared.iterator.IterState.{IterState}
use Rattle.py_text.specs.declared.iterator.IterState.TheVariants.{Active, Exhausted}
use Rattle.py_text.specs.Iterator.{Position}

-- the text and the place of a state; none where the iterator is exhausted
abbrev pub position_of : IterState → Option Position
position_of (Active text at) = Some (record { text = text.now; place = at })
position_of Exhausted = None
