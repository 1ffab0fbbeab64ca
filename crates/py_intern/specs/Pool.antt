-- A pool as a list of texts.
use Rattle.std.specs.Prelude.{◌≡◌, ℕ, List, [], ◌∷◌, ◌++◌, length, nat_eq, slice_get, Option, Some, None, position, unwrap_or, String, ⊤}
use Rattle.std.specs.String.{string_bytes}
use Rattle.std.specs.Str.{chars}
use Rattle.std.specs.Cmp.Lexicographic.{pointwise}
use Rattle.std.specs.Map.{values_of}

-- the place of a text
abbrev pub place_of : List ℕ → List (List ℕ) → Option ℕ
place_of text pool = position (pointwise nat_eq text) pool

-- the place that it has, or would have as the last
abbrev pub place_in : List ℕ → List (List ℕ) → ℕ
place_in text pool = unwrap_or (place_of text pool) (length pool)

-- the pool with the text, which is last where it was not there
abbrev pub put_by : Option ℕ → List ℕ → List (List ℕ) → List (List ℕ)
put_by (Some k) text pool = pool
put_by None text pool = pool ++ text ∷ []

abbrev pub put : List ℕ → List (List ℕ) → List (List ℕ)
put text pool = put_by (place_of text pool) text pool

-- no two places have one text
abbrev pub AreDistinct : List (List ℕ) → Type 0
AreDistinct pool =
    (a b : ℕ) (text : List ℕ) → slice_get pool a ≡ Some text → slice_get pool b ≡ Some text → a ≡ b

-- each key is the text of its value
abbrev pub KeysAreTexts : {Z : Type 0} → List (String Z × List ℕ) → Type 0
KeysAreTexts [] = ⊤
KeysAreTexts (e ∷ es) = (chars (string_bytes e.0) ≡ e.1) × KeysAreTexts es

-- the entries of a pool
pub record ArePooled {Z : Type 0} (es : List (String Z × List ℕ)) : Type 0 where
  pub keys : KeysAreTexts es
  pub distinct : AreDistinct (values_of es)
