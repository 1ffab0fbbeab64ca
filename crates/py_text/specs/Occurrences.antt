-- Where a text occurs in a text. A place counts code points from the text's beginning.
use Rattle.std.specs.Prelude.{◌≡◌, ℕ, zero, suc, ◌+◌, ◌<◌, max, ◌&&◌, Bool, nat_eq, nat_le, if◌then◌else◌, List, [], ◌∷◌, length, take, drop, Option, Some, None}
use Rattle.std.specs.List.{starts_with}
use Rattle.std.specs.Option.{option_or}

-- x occurs at a in the part of L from b to e
abbrev pub occurs_at : List ℕ → List ℕ → ℕ → ℕ → ℕ → Bool
occurs_at x L b e a = nat_le b a && nat_le (a + length x) e && starts_with nat_eq (drop a L) x

-- the least number below n that passes p
abbrev pub least : (ℕ → Bool) → ℕ → Option ℕ
least p zero = None
least p (suc n) = option_or (least p n) (if p n then Some n else None)

-- the greatest number below n that passes p
abbrev pub greatest : (ℕ → Bool) → ℕ → Option ℕ
greatest p zero = None
greatest p (suc n) = if p n then Some n else greatest p n

-- the least place of x in the part of L from b to e
abbrev pub first_in : List ℕ → List ℕ → ℕ → ℕ → Option ℕ
first_in x L b e = least (occurs_at x L b e) (suc e)

-- the greatest one
abbrev pub last_in : List ℕ → List ℕ → ℕ → ℕ → Option ℕ
last_in x L b e = greatest (occurs_at x L b e) (suc e)

-- the first k places of x in L from b to e, found from the left without overlap; an empty x occurs
-- at each place once
abbrev pub occurrences : ℕ → List ℕ → List ℕ → ℕ → ℕ → List ℕ
occurrences zero x L b e = []
occurrences (suc k) x L b e =
    elim (first_in x L b e) [ None ↦ [] | Some a ↦ a ∷ occurrences k x L (a + max 1 (length x)) e ]

-- front and back are what is before and after x at this place of L
abbrev pub IsAround : List ℕ → List ℕ → Option ℕ → List ℕ → List ℕ → Type 0
IsAround x L place front back =
    (a : ℕ) × (place ≡ Some a) × (front ≡ take a L) × (back ≡ drop (a + length x) L)

-- n is how often x occurs in L, however many places are looked for past its length
abbrev pub IsOccurrenceCount : List ℕ → List ℕ → ℕ → Type 0
IsOccurrenceCount x L n = (k : ℕ) → length L < k → n ≡ length (occurrences k x L 0 (length L))
