-- Which patterns are read as which trees.
use Rattle.std.specs.Prelude.{◌≡◌, ℕ, zero, suc, ◌+◌, ◌-◌, ◌*◌, ◌<◌, ◌≤◌, ◌==◌, ◌||◌, ◌&&◌, not, ◌⊎◌, nat_le, nat_lt, Bool, true, false, IsTrue, List, [], ◌∷◌, ◌++◌, length, fold, Option, Some, None, if◌then◌else◌, is_some, codes}
use Rattle.std.specs.List.{list_any, list_all}
use Rattle.re_tree.specs.declared.flags.TextFlags.{TextFlags}
use Rattle.re_tree.specs.declared.tree.CountMode.{CountMode}
use Rattle.re_tree.specs.declared.tree.CountMode.TheVariants.{Greedy, Lazy, Possessive}
use Rattle.re_tree.specs.declared.unit.UnitItem.{UnitItem}
use Rattle.re_tree.specs.declared.unit.UnitItem.TheVariants.{Literal, Span, Category}
use Rattle.re_tree.specs.PlainText.{PlainTest, dot, dot_all, literal, set, GroupName, numbered, named, PlainText, PlainTexts, unit, anchor, reference, conditional, conditional_else, sequence, alternation, counted, capture, plain, atomic_text, look_text, done, ◌also◌, captures}
use Rattle.py_base.specs.Reading.{find}
use Rattle.re_tree.specs.Tables.{Sign, escapes, dots, lines, counts, braces, brackets, opens, closes, splits, signs, Letter, is_character_of, digits_follow, categories, anchors, letters}
use Rattle.re_tree.specs.Characters.{hex_from, is_character, if_flag, is_digit, is_octal, is_ascii_non_alphanumeric, first_is}
use Rattle.re_tree.specs.Sets.{AreItems, caret_if}
use Rattle.re_tree.specs.Tokens.{Opening, capturing, non_capturing, atomic_opening, look_opening, conditional_opening, Token, unit_token, anchor_token, reference_token, count_token, open_token, bar, close, tokens_of}

-- what may have a count after it
abbrev pub is_countable : PlainText → Bool
is_countable (unit test) = true
is_countable (reference at id) = true
is_countable (conditional at id met) = true
is_countable (conditional_else at id met other) = true
is_countable (capture at number name body) = true
is_countable (plain at body) = true
is_countable (atomic_text at body) = true
is_countable _ = false

-- after g groups: a branch is pieces, a regex its one branch or two and more, and groups are
-- numbered as they begin
abbrev mutual
  pub IsRegex : ℕ → PlainText → Type 0
  IsRegex g (sequence parts) = ArePieces g parts
  IsRegex g (alternation (r also q also rs)) = AreBranches g (r also q also rs)
  IsRegex g _ = ⊥

  pub IsBranch : ℕ → PlainText → Type 0
  IsBranch g (sequence parts) = ArePieces g parts
  IsBranch g _ = ⊥

  -- an atom with at most one count
  pub IsPiece : ℕ → PlainText → Type 0
  IsPiece g (unit test) = Unit {0}
  IsPiece g (anchor k) = Unit {0}
  IsPiece g (reference at id) = Unit {0}
  IsPiece g (conditional at id met) = IsBranch g met
  IsPiece g (conditional_else at id met other) = IsBranch g met
      × IsBranch (g + captures met) other
  IsPiece g (counted at least most mode body) = (is_countable body ≡ true) × IsPiece g body
  IsPiece g (capture at number name body) = (number ≡ g + 1) × IsRegex (g + 1) body
  IsPiece g (plain at body) = IsRegex g body
  IsPiece g (atomic_text at body) = IsRegex g body
  IsPiece g (look_text at positive back body) = IsRegex g body
  IsPiece g _ = ⊥

  pub ArePieces : ℕ → PlainTexts → Type 0
  ArePieces g done = Unit {0}
  ArePieces g (r also rs) = IsPiece g r × ArePieces (g + captures r) rs

  pub AreBranches : ℕ → PlainTexts → Type 0
  AreBranches g done = Unit {0}
  AreBranches g (r also rs) = IsBranch g r × AreBranches (g + captures r) rs

abbrev pub Flags : Type 0
Flags = TextFlags

abbrev pub has : ℕ → List ℕ → Bool
has c cs = list_any (λ d. d == c) cs

abbrev pub AreDigits : List ℕ → Type 0
AreDigits ds = list_all is_digit ds ≡ true

-- the number that digits write, after those of n
abbrev pub value_from : ℕ → List ℕ → ℕ
value_from n [] = n
value_from n (d ∷ ds) = value_from (10 * n + (d - 48)) ds

abbrev pub value : List ℕ → ℕ
value ds = value_from 0 ds

-- a greatest number, or none where there are no digits
abbrev pub greatest_of : List ℕ → Option ℕ
greatest_of [] = None
greatest_of (d ∷ ds) = Some (value (d ∷ ds))

-- how a count's bounds are written: by a sign, as `{n}`, or as `{n,m}` where each number may be
-- absent
pub data WritesBounds (least : ℕ) (most : Option ℕ) (written : List ℕ) : Type 0 where
  by_sign : (c : ℕ) → find signs c ≡ Some (counts least most) → written ≡ c ∷ []
      → WritesBounds least most written
  exactly : (d : ℕ) (ds : List ℕ) → AreDigits (d ∷ ds) → least ≡ value (d ∷ ds)
      → most ≡ Some (value (d ∷ ds)) → written ≡ 123 ∷ d ∷ (ds ++ 125 ∷ [])
      → WritesBounds least most written
  between : (ds es : List ℕ) → AreDigits ds → AreDigits es → least ≡ value ds
      → most ≡ greatest_of es → written ≡ 123 ∷ (ds ++ 44 ∷ (es ++ 125 ∷ []))
      → WritesBounds least most written

-- what follows a count's bounds
abbrev pub WritesMode : CountMode → List ℕ → List ℕ → Type 0
WritesMode Greedy written rest = (written ≡ []) × (first_is (λ c. c == 63) rest ≡ false)
    × (first_is (λ c. c == 43) rest ≡ false)
WritesMode Lazy written rest = written ≡ codes "?"
WritesMode Possessive written rest = written ≡ codes "+"

-- no count begins here
abbrev pub BeginsNoCount : List ℕ → Type 0
BeginsNoCount text = (least : ℕ) (most : Option ℕ) (bounds rest : List ℕ)
    → WritesBounds least most bounds → text ≡ bounds ++ rest → ⊥

-- how a character is written by itself
pub data WritesCharacter (c : ℕ) (written rest : List ℕ) : Type 0 where
  itself : find signs c ≡ None → written ≡ c ∷ [] → WritesCharacter c written rest
  brace : c ≡ 123 → written ≡ 123 ∷ [] → BeginsNoCount (123 ∷ rest) → WritesCharacter c written rest
  escaped_itself : is_ascii_non_alphanumeric c ≡ true → written ≡ 92 ∷ c ∷ []
      → WritesCharacter c written rest
  escaped_letter : (l : ℕ) → find letters l ≡ Some (is_character_of c) → written ≡ 92 ∷ l ∷ []
      → WritesCharacter c written rest
  hexadecimal : (l n : ℕ) (ds : List ℕ) → find letters l ≡ Some (digits_follow n) → length ds ≡ n
      → hex_from 0 ds ≡ Some c → is_character c ≡ true → written ≡ 92 ∷ l ∷ ds
      → WritesCharacter c written rest

-- an id of digits alone is a number
abbrev pub id_of : List ℕ → GroupName
id_of [] = named []
id_of (c ∷ cs) = if list_all is_digit (c ∷ cs) then numbered (value (c ∷ cs)) else named (c ∷ cs)

abbrev pub is_first_digit : ℕ → Bool
is_first_digit d = nat_le 49 d && nat_le d 57

-- a back reference by its number: as many digits as are there up to two, where no three octal
-- digits are
pub data WritesNumber (n : ℕ) (written rest : List ℕ) : Type 0 where
  one : (d : ℕ) → is_first_digit d ≡ true → first_is is_digit rest ≡ false → n ≡ d - 48
      → written ≡ 92 ∷ d ∷ [] → WritesNumber n written rest
  two : (d e : ℕ) → is_first_digit d ≡ true → is_digit e ≡ true
      → (is_octal d && is_octal e && first_is is_octal rest) ≡ false → n ≡ 10 * (d - 48) + (e - 48)
      → written ≡ 92 ∷ d ∷ e ∷ [] → WritesNumber n written rest

-- what an opening is written as; a name goes up to the next `>`, and the id of a conditional up to
-- the next `)`
abbrev pub WritesOpening : Opening → List ℕ → List ℕ → Type 0
WritesOpening (capturing None) written rest = (written ≡ codes "(")
    × (first_is (λ c. c == 63) rest ≡ false)
WritesOpening (capturing (Some name)) written rest = (has 62 name ≡ false)
    × (written ≡ codes "(?P<" ++ (name ++ 62 ∷ []))
WritesOpening non_capturing written rest = written ≡ codes "(?:"
WritesOpening atomic_opening written rest = written ≡ codes "(?>"
WritesOpening (look_opening true false) written rest = written ≡ codes "(?="
WritesOpening (look_opening false false) written rest = written ≡ codes "(?!"
WritesOpening (look_opening true true) written rest = written ≡ codes "(?<="
WritesOpening (look_opening false true) written rest = written ≡ codes "(?<!"
WritesOpening (conditional_opening id) written rest = (name : List ℕ) × (has 41 name ≡ false)
    × (id ≡ id_of name) × (written ≡ codes "(?(" ++ (name ++ 41 ∷ []))

-- how an anchor is written
pub data WritesAnchor (flags : Flags) (k : ℕ) (written : List ℕ) : Type 0 where
  line_anchor : (c a b : ℕ) → find signs c ≡ Some (lines a b) → k ≡ if_flag (flags.multiline) b a
      → written ≡ c ∷ [] → WritesAnchor flags k written
  letter_anchor : (l a b : ℕ) → find letters l ≡ Some (anchors a b) → k ≡ if_flag (flags.ascii) b a
      → written ≡ 92 ∷ l ∷ [] → WritesAnchor flags k written

-- a category by itself, or a set in brackets; a `^` directly after the `[` always
-- negates
pub data WritesSet (flags : Flags) (negated : Bool) (items : List UnitItem) (written rest : List ℕ) : Type 0 where
  alone : (l a b : ℕ) → find letters l ≡ Some (categories a b) → negated ≡ false
      → items ≡ Category (if_flag (flags.ascii) b a) ∷ [] → written ≡ 92 ∷ l ∷ []
      → WritesSet flags negated items written rest
  in_brackets : (body : List ℕ) → AreItems (flags.ascii) true items (body ++ rest) rest
      → (negated ≡ false → first_is (λ c. c == 94) body ≡ false)
      → written ≡ 91 ∷ (caret_if negated ++ body) → WritesSet flags negated items written rest

-- how a test of a unit is written
abbrev pub WritesTest : Flags → PlainTest → List ℕ → List ℕ → Type 0
WritesTest flags dot written rest = (flags.dotall ≡ false) × (written ≡ codes ".")
WritesTest flags dot_all written rest = (flags.dotall ≡ true) × (written ≡ codes ".")
WritesTest flags (literal c) written rest = WritesCharacter c written rest
WritesTest flags (set negated items) written rest = WritesSet flags negated items written rest

-- the token is written so at place p, with this rest after it
abbrev pub IsToken : Flags → Token → ℕ → List ℕ → List ℕ → Type 0
IsToken flags (unit_token test) p written rest = WritesTest flags test written rest
IsToken flags (anchor_token k) p written rest = WritesAnchor flags k written
IsToken flags (reference_token at (numbered n)) p written rest = (at ≡ p)
    × WritesNumber n written rest
IsToken flags (reference_token at (named name)) p written rest = (at ≡ p)
    × (has 41 name ≡ false) × (written ≡ codes "(?P=" ++ (name ++ 41 ∷ []))
IsToken flags (count_token at least most mode) p written rest =
    (at ≡ p) × (bounds : List ℕ) × (tail : List ℕ) × WritesBounds least most bounds
    × WritesMode mode tail rest × (written ≡ bounds ++ tail)
IsToken flags (open_token at opening) p written rest = (at ≡ p)
    × WritesOpening opening written rest
IsToken flags bar p written rest = written ≡ codes "|"
IsToken flags close p written rest = written ≡ codes ")"

-- the pattern is made of these tokens, one after another, and the first is at p
abbrev pub AreTokens : Flags → ℕ → List Token → List ℕ → Type 0
AreTokens flags p [] text = text ≡ []
AreTokens flags p (t ∷ ts) text = (written : List ℕ) × (rest : List ℕ) × (text ≡ written ++ rest)
    × IsToken flags t p written rest × AreTokens flags (p + length written) ts rest

-- the pattern reads as r
pub record ReadsAs (text : List ℕ) (flags : Flags) (r : PlainText) : Type 0 where
  pub tokens : AreTokens flags 0 (tokens_of r) text
  pub shape : IsRegex 0 r
