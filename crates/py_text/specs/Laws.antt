-- Laws of texts and bytes.
use Rattle.std.specs.Prelude.{◌≡◌, ◌<◌, ◌≤◌, ◌≤ℤ◌, ◌↔◌, ◌≢◌, ◌<ℤ◌, ◌⊎◌, ⊤, ℕ, ◌+◌, zero, suc, ℤ, pos, Bool, IsTrue, true, false, All, List, [], ◌∷◌, ◌++◌, length, reverse, Option, Some, None}
use Rattle.std.specs.List.{concat}
use Rattle.std.specs.Option.{option_to_list}
use Rattle.std.specs.declared.cmp.Ordering.{Ordering}
use Rattle.std.specs.declared.cmp.Ordering.TheVariants.{Less, Equal, Greater}
use Rattle.py_base.specs.Chars.Whitespace.{is_ascii_whitespace}
use Rattle.py_text.specs.Mirror.{mirrored}
use Rattle.py_text.specs.Whitespace.{split_whitespace}
use Rattle.py_text.specs.Occurrences.{occurrences, occurs_at, first_in, last_in}
use Rattle.py_text.specs.Replacing.{join, replace}
use Rattle.py_text.specs.Partitions.{partition, rpartition}
use Rattle.py_text.specs.Iterator.{Position, rest_of, next_of, after_next, moved_to}
use Rattle.py_text.specs.Lines.{closes_line, without_end, split_lines}
use Rattle.py_text.specs.Subscript.{places_from, start_of, stop_of}
use Rattle.py_text.specs.Pieces.{split, split_by, rsplit_by}
use Rattle.py_text.specs.Hash.{text_hash}

-- an equality of lists: two are equal exactly where they are one list
abbrev pub AreEqualAsLists : (List ℕ → List ℕ → Bool) → Type 0
AreEqualAsLists eq = (a b : List ℕ) → IsTrue (eq a b) ↔ (a ≡ b)

-- an order of lists: the first item that differs decides
abbrev pub AreOrderedByFirstDifference : (List ℕ → List ℕ → Ordering) → Type 0
AreOrderedByFirstDifference cmp = (start xs ys : List ℕ) (c d : ℕ) → c < d
    → (cmp (start ++ c ∷ xs) (start ++ d ∷ ys) ≡ Less)
    × (cmp (start ++ d ∷ ys) (start ++ c ∷ xs) ≡ Greater)

-- a list comes after each of its proper prefixes
abbrev pub HavePrefixesFirst : (List ℕ → List ℕ → Ordering) → Type 0
HavePrefixesFirst cmp =
    (prefix xs : List ℕ) (c : ℕ)
    → (cmp prefix (prefix ++ c ∷ xs) ≡ Less) × (cmp (prefix ++ c ∷ xs) prefix ≡ Greater)

-- two are equal in the order exactly where they are one list
abbrev pub AreEqualInOrder : (List ℕ → List ℕ → Ordering) → Type 0
AreEqualInOrder cmp = (a b : List ℕ) → (cmp a b ≡ Equal) ↔ (a ≡ b)

-- a partial order that is the order
abbrev pub AreComparedAsOrdered : (List ℕ → List ℕ → Option Ordering)
    → (List ℕ → List ℕ → Ordering) → Type 0
AreComparedAsOrdered partial_cmp cmp = (a b : List ℕ) → partial_cmp a b ≡ Some (cmp a b)

-- what an equality takes for equal makes the same writes to a hasher
abbrev pub HashAlike : {X : Type 0} → (X → X → Bool) → (X → List (List ℕ)) → Type 0
HashAlike {X} eq hash_input = (a b : X) → IsTrue (eq a b) → hash_input a ≡ hash_input b

-- and, of texts, has the same hash under each seed
abbrev pub HaveOneHash : (List ℕ → List ℕ → Bool) → Type 0
HaveOneHash eq =
    (seed : ℕ) (a b : List ℕ) → IsTrue (eq a b) → text_hash seed a ≡ text_hash seed b

-- what so many calls of `next` give
abbrev pub given : ℕ → Option Position → List ℕ
given zero it = []
given (suc n) it = option_to_list (next_of it) ++ given n (after_next it)

-- an iterator gives the code points from its place on, and then none for good
abbrev pub GivesTheRest : Type 0
GivesTheRest = (it : Option Position) (n : ℕ) → length (rest_of it) ≤ n → given n it ≡ rest_of it

-- an iterator that is put at the end of its text or past it has nothing left
abbrev pub NothingPastTheEnd : Type 0
NothingPastTheEnd =
    (s : Position) (z : ℤ) → pos (length s.text) ≤ℤ z → rest_of (moved_to z (Some s)) ≡ []

-- an exhausted iterator stays exhausted
abbrev pub StaysExhausted : Type 0
StaysExhausted =
    (z : ℤ) → (next_of None ≡ None) × (after_next None ≡ None) × (moved_to z None ≡ None)

-- a slice of a list of n items takes at most n places: to look for more gives no more
abbrev pub NoMorePlaces : Type 0
NoMorePlaces = (n more : ℕ) (start stop : Option ℤ) (step : ℤ) → step ≢ pos 0
    → places_from (n + more) step (stop_of n step stop) (start_of n step start)
    ≡ places_from n step (stop_of n step stop) (start_of n step start)

-- this is the least number that passes, and none exactly where no number does
pub record IsLeast (passes : ℕ → Bool) (found : Option ℕ) : Type 0 where
  pub some : (a : ℕ) → (found ≡ Some a)
      ↔ ((passes a ≡ true) × ((c : ℕ) → passes c ≡ true → a ≤ c))
  pub none : (found ≡ None) ↔ ((a : ℕ) → passes a ≡ false)

-- this is the greatest one, and none exactly where no number does
pub record IsGreatest (passes : ℕ → Bool) (found : Option ℕ) : Type 0 where
  pub some : (a : ℕ) → (found ≡ Some a)
      ↔ ((passes a ≡ true) × ((c : ℕ) → passes c ≡ true → c ≤ a))
  pub none : (found ≡ None) ↔ ((a : ℕ) → passes a ≡ false)

-- what `find` answers in any part of a text is the least of the places at which x occurs there
abbrev pub FirstIsLeast : Type 0
FirstIsLeast = (x L : List ℕ) (b e : ℕ) → IsLeast (occurs_at x L b e) (first_in x L b e)

-- and what `rfind` answers is the greatest
abbrev pub LastIsGreatest : Type 0
LastIsGreatest = (x L : List ℕ) (b e : ℕ) → IsGreatest (occurs_at x L b e) (last_in x L b e)

-- a window from b to e has at most e + 1 - b places: to look for more gives no more
abbrev pub NoMoreOccurrences : Type 0
NoMoreOccurrences =
    (k more : ℕ) (x L : List ℕ) (b e : ℕ) → e < b + k
    → occurrences (k + more) x L b e ≡ occurrences k x L b e

-- nor does a greater limit change what `split` and `replace` give
abbrev pub NoMoreReplaced : Type 0
NoMoreReplaced =
    (k more : ℕ) (x y L : List ℕ) → length L < k
    → (split (k + more) x L ≡ split k x L) × (replace (k + more) x y L ≡ replace k x y L)

-- a text has at most as many pieces between whitespace as code points
abbrev pub NoMoreWhitespacePieces : Type 0
NoMoreWhitespacePieces =
    (k more : ℕ) (L : List ℕ) → length L ≤ k → split_whitespace (k + more) L ≡ split_whitespace k L

-- P holds of each but the last
abbrev pub AllButLast : (List ℕ → Type 0) → List (List ℕ) → Type 0
AllButLast P [] = ⊤
AllButLast P (p ∷ []) = ⊤
AllButLast P (p ∷ q ∷ ps) = P p × AllButLast P (q ∷ ps)

-- P holds of each but the first
abbrev pub AllButFirst : (List ℕ → Type 0) → List (List ℕ) → Type 0
AllButFirst P [] = ⊤
AllButFirst P (p ∷ ps) = All P ps

-- no code point of the list is whitespace
abbrev pub HasNoWhitespace : List ℕ → Type 0
HasNoWhitespace p = All (λ c. is_ascii_whitespace c ≡ false) p

-- no whitespace is first
abbrev pub BeginsWithoutWhitespace : List ℕ → Type 0
BeginsWithoutWhitespace [] = ⊤
BeginsWithoutWhitespace (c ∷ cs) = is_ascii_whitespace c ≡ false

-- no whitespace is last
abbrev pub EndsWithoutWhitespace : List ℕ → Type 0
EndsWithoutWhitespace p = BeginsWithoutWhitespace (reverse p)

-- pieces between whitespace, and what is after them as the last
pub record AreBetweenWhitespace (ps : List (List ℕ)) : Type 0 where
  pub not_empty : All (λ p. p ≢ []) ps
  pub begin_without : All BeginsWithoutWhitespace ps
  pub no_whitespace : AllButLast HasNoWhitespace ps

-- pieces between whitespace, and what is before them as the first
pub record AreBetweenFromRight (ps : List (List ℕ)) : Type 0 where
  pub not_empty : All (λ p. p ≢ []) ps
  pub end_without : All EndsWithoutWhitespace ps
  pub no_whitespace : AllButFirst HasNoWhitespace ps

-- the pieces of `split` without a separator are such, for each maxsplit, and where that sets no
-- limit, the last has no whitespace either
abbrev pub PiecesBetweenWhitespace : Type 0
PiecesBetweenWhitespace = (m : ℤ) (L : List ℕ)
    → AreBetweenWhitespace (split_by None m L)
    × (m <ℤ pos 0 → All HasNoWhitespace (split_by None m L))

-- and so are those of `rsplit`, with the first in place of the last
abbrev pub PiecesBetweenFromRight : Type 0
PiecesBetweenFromRight = (m : ℤ) (L : List ℕ)
    → AreBetweenFromRight (rsplit_by None m L)
    × (m <ℤ pos 0 → All HasNoWhitespace (rsplit_by None m L))

-- a limit of k leaves at most k + 1 pieces, from the left and from the right
abbrev pub LimitBoundsThePieces : Type 0
LimitBoundsThePieces = (x : Option (List ℕ)) (k : ℕ) (L : List ℕ)
    → (length (split_by x (pos k) L) ≤ suc k) × (length (rsplit_by x (pos k) L) ≤ suc k)

-- nothing but whitespace
abbrev pub HasOnlyWhitespace : List ℕ → Type 0
HasOnlyWhitespace gap = All (λ c. is_ascii_whitespace c ≡ true) gap

-- a piece ends before this: nothing is left, or whitespace is first
abbrev pub IsCutOff : List ℕ → Type 0
IsCutOff [] = ⊤
IsCutOff (c ∷ cs) = is_ascii_whitespace c ≡ true

-- the text is these pieces in this order, with whitespace around them and nothing else
abbrev pub IsSpaced : List (List ℕ) → List ℕ → Type 0
IsSpaced [] L = HasOnlyWhitespace L
IsSpaced (p ∷ ps) L =
    (gap : List ℕ) × (rest : List ℕ) × (L ≡ gap ++ (p ++ rest)) × HasOnlyWhitespace gap
    × IsCutOff rest × IsSpaced ps rest

-- the text is the pieces of `split` without a separator, and the whitespace around them
abbrev pub WhitespacePiecesAreTheText : Type 0
WhitespacePiecesAreTheText = (m : ℤ) (L : List ℕ) → IsSpaced (split_by None m L) L

-- read from right to left, the text is the pieces of `rsplit` without a separator in the same way
abbrev pub WhitespacePiecesFromRightAreTheText : Type 0
WhitespacePiecesFromRightAreTheText =
    (m : ℤ) (L : List ℕ) → IsSpaced (mirrored (rsplit_by None m L)) (reverse L)

-- the lines with their ends, joined, are the text
abbrev pub LinesAreTheText : Type 0
LinesAreTheText = (L : List ℕ) → concat (split_lines true L) ≡ L

-- one line end, where this is after it: CR LF, or one character; CR alone only where no LF follows
abbrev pub IsOneEnd : List ℕ → List ℕ → Type 0
IsOneEnd rest end =
    (end ≡ 0x0D ∷ 0x0A ∷ []) ⊎ ((c : ℕ) × (end ≡ c ∷ []) × (closes_line c rest ≡ true))

-- a line before the rest of a text: one line end is at its end and none before that; the last line
-- may be without, but then it is not empty
abbrev pub IsLine : List ℕ → List ℕ → Type 0
IsLine l rest =
    ((end : List ℕ) × (l ≡ without_end l ++ end) × IsOneEnd rest end)
    ⊎ ((rest ≡ []) × (l ≢ []) × (without_end l ≡ l))

-- each is a line before those after it
abbrev pub AreLines : List (List ℕ) → Type 0
AreLines [] = ⊤
AreLines (l ∷ ls) = IsLine l (concat ls) × AreLines ls

-- each line with its end has one line end, at its end
abbrev pub LinesEndOnce : Type 0
LinesEndOnce = (L : List ℕ) → AreLines (split_lines true L)

-- x occurs nowhere in the piece
abbrev pub Lacks : List ℕ → List ℕ → Type 0
Lacks x p = first_in x p 0 (length p) ≡ None

-- a separator that is not empty occurs in no piece of `split` but the last, and without a limit in
-- none
abbrev pub PiecesLackTheSeparator : Type 0
PiecesLackTheSeparator =
    (x L : List ℕ) (m : ℤ) → x ≢ []
    → AllButLast (Lacks x) (split_by (Some x) m L)
    × (m <ℤ pos 0 → All (Lacks x) (split_by (Some x) m L))

-- the same of `rsplit`, but for its first piece
abbrev pub PiecesFromRightLackTheSeparator : Type 0
PiecesFromRightLackTheSeparator =
    (x L : List ℕ) (m : ℤ) → x ≢ []
    → AllButFirst (Lacks x) (rsplit_by (Some x) m L)
    × (m <ℤ pos 0 → All (Lacks x) (rsplit_by (Some x) m L))

-- the pieces of `split`, joined by a separator that is not empty, are the text, for each maxsplit
abbrev pub PiecesAreTheText : Type 0
PiecesAreTheText = (x L : List ℕ) (m : ℤ) → x ≢ [] → join x (split_by (Some x) m L) ≡ L

-- and so are those of `rsplit`
abbrev pub PiecesFromRightAreTheText : Type 0
PiecesFromRightAreTheText = (x L : List ℕ) (m : ℤ) → x ≢ [] → join x (rsplit_by (Some x) m L) ≡ L

-- front, mid and back of a partition, joined, are the text
abbrev pub PartsAreTheText : Type 0
PartsAreTheText =
    (x L : List ℕ) → (let p = partition x L in p.0 ++ p.1 ++ p.2 ≡ L)
    × (let p = rpartition x L in p.0 ++ p.1 ++ p.2 ≡ L)
