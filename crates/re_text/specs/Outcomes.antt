-- The outcomes of a pattern at a place, in their order.
use Rattle.std.specs.Prelude.{ℕ, zero, suc, ◌+◌, ◌-◌, ◌==◌, nat_eq, nat_lt, nat_le, not, ◌&&◌, Bool, true, false, List, [], ◌∷◌, ◌++◌, length, drop, slice_range, Option, Some, None, is_some}
use Rattle.std.specs.List.{starts_with, list_any}
use Rattle.py_base.specs.Chars.Categories.{in_category}
use Rattle.re_tree.specs.declared.tree.CountMode.{CountMode}
use Rattle.re_tree.specs.declared.tree.CountMode.TheVariants.{Greedy, Lazy, Possessive}
use Rattle.re_tree.specs.declared.unit.UnitItem.{UnitItem}
use Rattle.re_tree.specs.declared.unit.UnitItem.TheVariants.{Literal, Span, Category}
use Rattle.re_tree.specs.PlainText.{PlainTest, dot, dot_all, literal, set, PlainText, PlainTexts, unit, anchor, reference, conditional, conditional_else, sequence, alternation, counted, capture, plain, atomic_text, look_text, done, ◌also◌, Names, number_of}
use Rattle.sre_match.specs.Attempts.{Marks, span_of}
use Rattle.sre_match.specs.Anchors.{met_at, is_newline, is_at_anchor}
use Rattle.sre_match.specs.Repeats.{is_past}
use Rattle.re_tree.specs.Widths.{width}

-- an end, and the captures on the way
abbrev pub Outcome : Type 0
Outcome = ℕ × Marks

-- how it goes on from an end and captures
abbrev pub Onward : Type 0
Onward = ℕ → Marks → List Outcome

abbrev pub here : Onward
here p m = (p, m) ∷ []

-- one outcome where the test holds, else none
abbrev pub only_if : Bool → ℕ → Marks → List Outcome
only_if true p m = here p m
only_if false p m = []

-- each outcome is replaced by those that f gives for it
abbrev pub each_then : List Outcome → Onward → List Outcome
each_then [] f = []
each_then (o ∷ rest) f = f o.0 o.1 ++ each_then rest f

-- each outcome captures group g, which began at p
abbrev pub closing : ℕ → ℕ → List Outcome → List Outcome
closing g p [] = []
closing g p (o ∷ rest) = (o.0, o.1 ++ record { group = g; start = p; stop = o.0 } ∷ []) ∷ closing g p rest

-- at most the first
abbrev pub first_of_all : List Outcome → List Outcome
first_of_all [] = []
first_of_all (o ∷ rest) = o ∷ []

-- a positive lookaround stays where it is with the captures of the first, and a negative one with its own
-- where there is none
abbrev pub looked : Bool → ℕ → Marks → List Outcome → List Outcome
looked true p m [] = []
looked true p m (o ∷ rest) = here p o.1
looked false p m [] = here p m
looked false p m (o ∷ rest) = []

abbrev pub keep_if : Bool → Outcome → List Outcome → List Outcome
keep_if true o rest = o ∷ rest
keep_if false o rest = rest

-- those that end at p
abbrev pub ending_at : ℕ → List Outcome → List Outcome
ending_at p [] = []
ending_at p (o ∷ rest) = keep_if (o.0 == p) o (ending_at p rest)

-- the outcomes so many units back that end here, which are none where there are too few units or no
-- width
abbrev pub from_behind : Option ℕ → ℕ → Marks → Onward → List Outcome
from_behind None p m f = []
from_behind (Some k) p m f = elim (nat_lt p k) [ true ↦ [] | false ↦ ending_at p (f (p - k) m) ]

-- greedy takes one more first, lazy goes on first
abbrev pub either_first : Bool → List Outcome → List Outcome → List Outcome
either_first true more stays = more ++ stays
either_first false more stays = stays ++ more

-- at most j optional bodies, each only past the start q of the optional one before
abbrev pub at_most : Onward → Bool → ℕ → Option ℕ → Onward
at_most body greedy zero q p m = here p m
at_most body greedy (suc j) q p m =
    elim (is_past q p) [
      | true ↦ either_first greedy (each_then (body p m) (at_most body greedy j (Some p))) (here p m)
      | false ↦ here p m
    ]

-- k bodies one after another, and then at most j optional ones
abbrev pub times_from : Onward → Bool → ℕ → ℕ → Onward
times_from body greedy zero j p m = at_most body greedy j None p m
times_from body greedy (suc k) j p m = each_then (body p m) (times_from body greedy k j)

-- how many optional bodies there may be; n where there is no greatest number
abbrev pub optional_count : ℕ → ℕ → Option ℕ → ℕ
optional_count n least None = n
optional_count n least (Some most) = most - least

abbrev pub in_mode : CountMode → Onward → ℕ → ℕ → Onward
in_mode Greedy body least j p m = times_from body true least j p m
in_mode Lazy body least j p m = times_from body false least j p m
in_mode Possessive body least j p m = first_of_all (times_from body true least j p m)

abbrev pub unit_item_holds : UnitItem → ℕ → Bool
unit_item_holds (Literal x) c = c == x
unit_item_holds (Span lo hi) c = nat_le lo c && nat_le c hi
unit_item_holds (Category k) c = in_category k c

abbrev pub test_holds : PlainTest → ℕ → Bool
test_holds dot c = not (is_newline c)
test_holds dot_all c = true
test_holds (literal x) c = c == x
test_holds (set false items) c = list_any (λ item. unit_item_holds item c) items
test_holds (set true items) c = not (list_any (λ item. unit_item_holds item c) items)

-- the text of a group once more, where the group is set
abbrev pub once_more : Option (ℕ × ℕ) → List ℕ → Onward
once_more None s p m = []
once_more (Some span) s p m =
    let text = slice_range s span.0 span.1 in
    only_if (starts_with nat_eq (drop p s) text) (p + length text) m

-- n is the number of times that a count without a greatest one is gone on with, so that the
-- recursion ends:
-- from two more than the length of s on it makes no difference
abbrev mutual
  pub outcomes : ℕ → Names → PlainText → List ℕ → Onward
  outcomes n names (unit test) s p m = only_if (met_at (test_holds test) s p) (p + 1) m
  outcomes n names (anchor k) s p m = only_if (is_at_anchor k s p) p m
  outcomes n names (reference at id) s p m = once_more (span_of m (number_of names id)) s p m
  outcomes n names (conditional at id met) s p m =
      elim (is_some (span_of m (number_of names id))) [ true ↦ outcomes n names met s p m | false ↦ here p m ]
  outcomes n names (conditional_else at id met other) s p m =
      elim (is_some (span_of m (number_of names id))) [ true ↦ outcomes n names met s p m | false ↦ outcomes n names other s p m ]
  outcomes n names (sequence parts) s p m = outcomes_in_turn n names parts s p m
  outcomes n names (alternation branches) s p m = outcomes_of_each n names branches s p m
  outcomes n names (counted at least most mode body) s p m = in_mode mode (outcomes n names body s) least (optional_count n least most) p m
  outcomes n names (capture at number name body) s p m = closing number p (outcomes n names body s p m)
  outcomes n names (plain at body) s p m = outcomes n names body s p m
  outcomes n names (atomic_text at body) s p m = first_of_all (outcomes n names body s p m)
  outcomes n names (look_text at positive false body) s p m = looked positive p m (outcomes n names body s p m)
  outcomes n names (look_text at positive true body) s p m = looked positive p m (from_behind (width body) p m (outcomes n names body s))

  -- one part after another
  pub outcomes_in_turn : ℕ → Names → PlainTexts → List ℕ → Onward
  outcomes_in_turn n names done s p m = here p m
  outcomes_in_turn n names (r also rs) s p m = each_then (outcomes n names r s p m) (outcomes_in_turn n names rs s)

  -- those of the branches, joined
  pub outcomes_of_each : ℕ → Names → PlainTexts → List ℕ → Onward
  outcomes_of_each n names done s p m = []
  outcomes_of_each n names (r also rs) s p m = outcomes n names r s p m ++ outcomes_of_each n names rs s p m
