-- How many places a slice takes at most.
use Rattle.std.proofs.Common.{◌≡◌, ◌∙◌, ◌+◌, ℕ, zero, suc, Bool, true, false, ℤ, pos, negsuc, List, [], ◌∷◌, Option, Some, None, ap, refl, arith}
use Rattle.std.specs.Prelude.{◌+ℤ◌, ◌≤ℤ◌, ◌<ℤ◌, ◌≢◌, int_lt}
use Rattle.std.proofs.lemmas.Int.{ints, by_lt_z}
use Rattle.py_text.specs.Subscript.{clamp, from_end, end_of, goes_on, places_from, start_of, stop_of}

-- a place that is cut to bounds is within them
low_cut : (low high z : ℤ) → low ≤ℤ clamp low high z
low_cut low high z = grind (arith, ints)

high_cut : (low high z : ℤ) → low ≤ℤ high → clamp low high z ≤ℤ high
high_cut low high z h = grind (arith, ints)

low_end : (n : ℕ) (low high absent : ℤ) (given : Option ℤ) → low ≤ℤ absent → low ≤ℤ end_of n low high absent given
low_end n low high absent None h = h
low_end n low high absent (Some z) h = low_cut low high (from_end n z)

high_end : (n : ℕ) (low high absent : ℤ) (given : Option ℤ) → low ≤ℤ high → absent ≤ℤ high → end_of n low high absent given ≤ℤ high
high_end n low high absent None h i = i
high_end n low high absent (Some z) h i = high_cut low high (from_end n z) h

-- a walk that is at its stop takes nothing
none_left : (n : ℕ) (step stop at : ℤ) → goes_on step stop at ≡ false → places_from n step stop at ≡ []
none_left zero step stop at h = refl
none_left (suc n) step stop at h = rw h refl

-- upwards
at_stop : (step stop at : ℤ) → pos 0 <ℤ step → stop ≤ℤ at → goes_on step stop at ≡ false
at_stop step stop at h i =
    let up : int_lt step (pos 0) ≡ false = grind (arith, ints) in
    let past : int_lt at stop ≡ false = grind (arith, ints) in
    rw (up, past) refl

walks : (n more : ℕ) (step stop at : ℤ) (t : Bool) → goes_on step stop at ≡ t
    → places_from (n + more) step stop (at +ℤ step) ≡ places_from n step stop (at +ℤ step)
    → places_from (suc (n + more)) step stop at ≡ places_from (suc n) step stop at
walks n more step stop at true h rest = rw h (ap (λ (l : List ℤ). at ∷ l) rest)
walks n more step stop at false h rest = rw h refl

enough_up : (n more : ℕ) (step stop at : ℤ) → pos 0 <ℤ step → stop ≤ℤ (at +ℤ pos n) → places_from (n + more) step stop at ≡ places_from n step stop at
enough_up zero more step stop at h i = none_left (zero + more) step stop at (at_stop step stop at h (omega (arith, ints)))
enough_up (suc n) more step stop at h i =
    ap (λ k. places_from k step stop at) {x = suc n + more} {y = suc (n + more)} (omega arith)
    ∙ walks n more step stop at (goes_on step stop at) refl (enough_up n more step stop (at +ℤ step) h (omega (arith, ints)))

-- downwards
back_at_stop : (step stop at : ℤ) → step <ℤ pos 0 → at ≤ℤ stop → goes_on step stop at ≡ false
back_at_stop step stop at h i =
    let down : int_lt step (pos 0) ≡ true = grind (arith, ints) in
    let past : int_lt stop at ≡ false = grind (arith, ints) in
    rw (down, past) refl

enough_down : (n more : ℕ) (step stop at : ℤ) → step <ℤ pos 0 → at ≤ℤ (stop +ℤ pos n) → places_from (n + more) step stop at ≡ places_from n step stop at
enough_down zero more step stop at h i = none_left (zero + more) step stop at (back_at_stop step stop at h (omega (arith, ints)))
enough_down (suc n) more step stop at h i =
    ap (λ k. places_from k step stop at) {x = suc n + more} {y = suc (n + more)} (omega arith)
    ∙ walks n more step stop at (goes_on step stop at) refl (enough_down n more step stop (at +ℤ step) h (omega (arith, ints)))

forward : (n more : ℕ) (start stop : Option ℤ) (step : ℤ) → pos 0 <ℤ step
    → places_from (n + more) step (stop_of n step stop) (start_of n step start) ≡ places_from n step (stop_of n step stop) (start_of n step start)
forward n more start stop step h =
    let up : int_lt step (pos 0) ≡ false = grind (arith, ints) in
    let begins = low_end n (pos 0) (pos n) (pos 0) start (omega (arith, ints)) in
    let stops = high_end n (pos 0) (pos n) (pos n) stop (omega (arith, ints)) (omega (arith, ints)) in
    rw up (enough_up n more step (end_of n (pos 0) (pos n) (pos n) stop) (end_of n (pos 0) (pos n) (pos 0) start) h (omega (arith, ints, begins, stops)))

backward : (n more : ℕ) (start stop : Option ℤ) (step : ℤ) → step <ℤ pos 0
    → places_from (n + more) step (stop_of n step stop) (start_of n step start) ≡ places_from n step (stop_of n step stop) (start_of n step start)
backward n more start stop step h =
    let down : int_lt step (pos 0) ≡ true = grind (arith, ints) in
    let stops = low_end n (negsuc 0) (pos n +ℤ negsuc 0) (negsuc 0) stop (omega (arith, ints)) in
    let begins = high_end n (negsuc 0) (pos n +ℤ negsuc 0) (pos n +ℤ negsuc 0) start (omega (arith, ints)) (omega (arith, ints)) in
    rw down (enough_down n more step (end_of n (negsuc 0) (pos n +ℤ negsuc 0) (negsuc 0) stop) (end_of n (negsuc 0) (pos n +ℤ negsuc 0) (pos n +ℤ negsuc 0) start) h (omega (arith, ints, begins, stops)))

pub no_more_places : (n more : ℕ) (start stop : Option ℤ) (step : ℤ) → step ≢ pos 0
    → places_from (n + more) step (stop_of n step stop) (start_of n step start) ≡ places_from n step (stop_of n step stop) (start_of n step start)
no_more_places n more start stop step h =
    by_lt_z step (pos 0) (λ lt. backward n more start stop step lt) (λ ge. forward n more start stop step (above step h ge)) where
      above : (step : ℤ) → step ≢ pos 0 → pos 0 ≤ℤ step → pos 0 <ℤ step
      above step h ge = by_lt_z (pos 0) step (λ lt. lt) (λ le. absurd (h (omega (arith, ints))))
