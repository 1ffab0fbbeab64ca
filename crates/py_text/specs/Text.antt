-- What a text keeps beside its bytes.
use Rattle.std.specs.Prelude.{◌≡◌, ℕ, Bool, true, ◌&&◌, nat_lt, List, [], ◌∷◌, length}

-- each code point is below 128
abbrev pub all_ascii : List ℕ → Bool
all_ascii [] = true
all_ascii (c ∷ cs) = nat_lt c 128 && all_ascii cs

-- the mark and the count are those of the code points
pub record IsMarked (text : List ℕ) (ascii : Bool) (count : ℕ) : Type 0 where
  pub marked : ascii ≡ all_ascii text
  pub counted : count ≡ length text
