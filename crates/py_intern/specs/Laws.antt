-- Laws of pools and handles.
use Rattle.std.specs.Prelude.{◌≡◌, ◌<◌, ◌↔◌, ℕ, Bool, IsTrue, List, length, slice_get, Option, Some, None}
use Rattle.std.specs.Ordering.{nat_cmp}
use Rattle.std.specs.declared.cmp.Ordering.{Ordering}
use Rattle.std.specs.declared.cmp.Ordering.TheVariants.{Less}
use Rattle.py_intern.specs.Pool.{place_of, place_in, put, AreDistinct}

-- an equality of handles: two of one pool are equal exactly where their texts are
abbrev pub AreEqualAsTexts : (ℕ → ℕ → Bool) → Type 0
AreEqualAsTexts eq = (pool : List (List ℕ)) (a b : ℕ)
    → AreDistinct pool → a < length pool → b < length pool
    → IsTrue (eq a b) ↔ (slice_get pool a ≡ slice_get pool b)

-- an order of handles: that of their places, so a text that is put later has a greater handle
abbrev pub AreOrderedAsPut : (ℕ → ℕ → Option Ordering) → (ℕ → ℕ → Ordering) → Type 0
AreOrderedAsPut partial_cmp cmp = (a b : ℕ)
    → (cmp a b ≡ nat_cmp a b) × (partial_cmp a b ≡ Some (nat_cmp a b))

-- a text that is put where it was not there has a greater handle than all before it
abbrev pub NewIsGreatest : (ℕ → ℕ → Ordering) → Type 0
NewIsGreatest cmp = (pool : List (List ℕ)) (text : List ℕ) (a : ℕ)
    → place_of text pool ≡ None → a < length pool → cmp a (place_in text pool) ≡ Less

-- the text of a handle is the same after a later `intern` of any text
abbrev pub KeepsTexts : Type 0
KeepsTexts = (pool : List (List ℕ)) (text : List ℕ) (a : ℕ)
    → a < length pool → slice_get (put text pool) a ≡ slice_get pool a

-- a pool has no text twice after `intern` either
abbrev pub StaysDistinct : Type 0
StaysDistinct = (pool : List (List ℕ)) (text : List ℕ)
    → AreDistinct pool → AreDistinct (put text pool)

-- the text of a handle is found at that handle
abbrev pub FindsItsText : Type 0
FindsItsText = (pool : List (List ℕ)) (text : List ℕ) (a : ℕ)
    → AreDistinct pool → slice_get pool a ≡ Some text → place_of text pool ≡ Some a
