-- Laws of stripped, padded, expanded and encoded texts.
use Rattle.std.specs.Prelude.{◌≡◌, ◌≤◌, ◌<◌, ◌+◌, ◌%◌, ◌==◌, ◌||◌, not, ℕ, Bool, true, false, List, [], ◌∷◌, ◌++◌, length, reverse, filter, take_while, encode_utf8_all, IsUtf8}
use Rattle.std.specs.List.{list_any, list_all}
use Rattle.std.specs.Str.{all_scalars}
use Rattle.py_base.specs.Chars.Whitespace.{trim}
use Rattle.py_str.specs.Codec.{IsDecoded}
use Rattle.py_str.specs.Pad.{run, center, ljust, rjust, zfill}
use Rattle.py_str.specs.Tabs.{expanded, expanded_at}

-- the first and the last code point fail a test
pub record FailAtTheEnds (test : ℕ → Bool) (cs : List ℕ) : Type 0 where
  pub first : (c : ℕ) (rest : List ℕ) → cs ≡ c ∷ rest → test c ≡ false
  pub last : (front : List ℕ) (c : ℕ) → cs ≡ front ++ c ∷ [] → test c ≡ false

-- a stripped text neither begins nor ends with what is stripped
abbrev pub NoneAtTheEnds : Type 0
NoneAtTheEnds = (test : ℕ → Bool) (cs : List ℕ) → FailAtTheEnds test (trim test cs)

-- a text made of another by taking away, before it and after it, what passes a test
pub record IsCutFrom (test : ℕ → Bool) (cs made : List ℕ) : Type 0 where
  pub front : List ℕ
  pub back : List ℕ
  pub parts : cs ≡ front ++ (made ++ back)
  pub front_passes : list_all test front ≡ true
  pub back_passes : list_all test back ≡ true

-- a stripped text is cut from the text so
abbrev pub StripsOnlyWhatPasses : Type 0
StripsOnlyWhatPasses = (test : ℕ → Bool) (cs : List ℕ) → IsCutFrom test cs (trim test cs)

-- a text made of another: as long as the width where the other is not longer, and else the other
pub record FillsTheWidth (width : ℕ) (cs made : List ℕ) : Type 0 where
  pub filled : length cs ≤ width → length made ≡ width
  pub kept : width ≤ length cs → made ≡ cs

-- `center`, `ljust` and `rjust` fill the width, with each fill
abbrev pub PaddingsFillTheWidth : Type 0
PaddingsFillTheWidth = (width : ℕ) (cs : List ℕ) (fill : ℕ)
    → FillsTheWidth width cs (center width cs fill)
    × FillsTheWidth width cs (ljust width cs fill)
    × FillsTheWidth width cs (rjust width cs fill)

-- `zfill` fills the width
abbrev pub ZerosFillTheWidth : Type 0
ZerosFillTheWidth = (width : ℕ) (cs : List ℕ) → FillsTheWidth width cs (zfill width cs)

-- `expandtabs` leaves no tab
abbrev pub NoTabIsLeft : Type 0
NoTabIsLeft = (size : ℕ) (cs : List ℕ) → list_any (λ c. c == 9) (expanded size cs) ≡ false

-- CR and LF begin a line
abbrev pub is_line_start : ℕ → Bool
is_line_start c = c == 10 || c == 13

-- how many code points the last line of a text has: what is after the last CR or LF
abbrev pub last_line_length : List ℕ → ℕ
last_line_length cs = length (take_while (λ c. not (is_line_start c)) (reverse cs))

-- so many spaces, at least one and at most the size, after which the line is a multiple of the size
pub record FillUp (size column spaces : ℕ) : Type 0 where
  pub some : 0 < spaces
  pub few : spaces ≤ size
  pub multiple : (column + spaces) % size ≡ 0

-- where a tab is, what is before it is expanded as it would be alone, and then come spaces up to
-- the next multiple of the size; what is after it goes on at the column that they reach
abbrev pub TabsReachMultiples : Type 0
TabsReachMultiples = (size : ℕ) (front back : List ℕ) → 0 < size
    → let made = expanded size front in let column = last_line_length made in
    (spaces : ℕ) × FillUp size column spaces
    × (expanded size (front ++ 9 ∷ back)
    ≡ made ++ (run spaces 32 ++ expanded_at size (column + spaces) back))

-- but for spaces and tabs, a text whose tabs are expanded is the text
abbrev pub OnlyTabsChange : Type 0
OnlyTabsChange = (size : ℕ) (cs : List ℕ)
    → filter (λ c. not (c == 32)) (expanded size cs)
    ≡ filter (λ c. not (c == 32 || c == 9)) cs

-- a text without tabs stays
abbrev pub NoTabNoChange : Type 0
NoTabNoChange = (size : ℕ) (cs : List ℕ) → list_any (λ c. c == 9) cs ≡ false → expanded size cs ≡ cs

-- what is encoded is UTF-8, and what is decoded of it is the text
abbrev pub EncodedIsDecoded : Type 0
EncodedIsDecoded = (cs : List ℕ) → all_scalars cs ≡ true
    → IsUtf8 (encode_utf8_all cs)
    × ((made : List ℕ) → all_scalars made ≡ true → IsDecoded (encode_utf8_all cs) made → made ≡ cs)
