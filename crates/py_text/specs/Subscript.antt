-- Items and slices of a list, by the rules of Python.
use Rattle.std.specs.Prelude.{Bool, ℕ, zero, suc, ℤ, pos, negsuc, ◌+ℤ◌, int_lt, if◌then◌else◌, List, [], ◌∷◌, length, Option, Some, None, slice_get}
use Rattle.std.specs.Int.{int_min, int_max}
use Rattle.std.specs.List.{filter_map}

-- a place in a list of n items: where it is negative, it is counted from the end
abbrev pub from_end : ℕ → ℤ → ℤ
from_end n z = if int_lt z (pos 0) then z +ℤ pos n else z

-- the item at a place, where there is one
abbrev pub item_at : List ℕ → ℤ → Option ℕ
item_at L (pos n) = slice_get L n
item_at L (negsuc n) = None

-- what `L[z]` is: the item at a place that may be counted from the end
abbrev pub item_of : List ℕ → ℤ → Option ℕ
item_of L z = item_at L (from_end (length L) z)

-- z, or the nearer bound where it is outside of them
abbrev pub clamp : ℤ → ℤ → ℤ → ℤ
clamp low high z = int_max low (int_min z high)

-- an end of a slice of a list of n items: a given one is counted from the end where it is negative,
-- and then clamped
abbrev pub end_of : ℕ → ℤ → ℤ → ℤ → Option ℤ → ℤ
end_of n low high absent None = absent
end_of n low high absent (Some z) = clamp low high (from_end n z)

-- whether a place is not yet at the stop: before it, or past it where the step is negative
abbrev pub goes_on : ℤ → ℤ → ℤ → Bool
goes_on step stop at = if int_lt step (pos 0) then int_lt stop at else int_lt at stop

-- the places at, at + step and on, as long as they are not at the stop; at most n of them
abbrev pub places_from : ℕ → ℤ → ℤ → ℤ → List ℤ
places_from zero step stop at = []
places_from (suc n) step stop at =
    if goes_on step stop at then at ∷ places_from n step stop (at +ℤ step) else []

-- where a slice of a list of n items begins: at its first item, or at its last one where the step
-- is negative
abbrev pub start_of : ℕ → ℤ → Option ℤ → ℤ
start_of n step start =
    if int_lt step (pos 0)
    then end_of n (negsuc 0) (pos n +ℤ negsuc 0) (pos n +ℤ negsuc 0) start
    else end_of n (pos 0) (pos n) (pos 0) start

-- and where it stops: after its last item, or before its first one where the step is negative
abbrev pub stop_of : ℕ → ℤ → Option ℤ → ℤ
stop_of n step stop =
    if int_lt step (pos 0)
    then end_of n (negsuc 0) (pos n +ℤ negsuc 0) (negsuc 0) stop
    else end_of n (pos 0) (pos n) (pos n) stop

-- the places that a slice of a list of n items takes, in their order, for a step that is not 0
abbrev pub places_of : ℕ → Option ℤ → Option ℤ → ℤ → List ℤ
places_of n start stop step = places_from n step (stop_of n step stop) (start_of n step start)

-- `L[start:stop:step]`: the items at these places
abbrev pub slice_of : List ℕ → Option ℤ → Option ℤ → ℤ → List ℕ
slice_of L start stop step = filter_map (item_at L) (places_of (length L) start stop step)
