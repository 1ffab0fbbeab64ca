-- Laws of trees and their spellings.
use Rattle.std.specs.Prelude.{◌≡◌, ◌↔◌, ℕ, List, Ok}
use Rattle.sre_code.specs.PlainTree.{PlainTree}
use Rattle.sre_code.specs.Spelling.{Spells}
use Rattle.sre_code.specs.Decoding.{read_code}

-- no words spell two trees for one group count
abbrev pub OneTreeForOneCode : Type 0
OneTreeForOneCode =
    (words : List ℕ) (groups : ℕ) (t u : PlainTree)
    → Spells words groups t → Spells words groups u → t ≡ u

-- the words that spell a tree are those that are read as it
abbrev pub ReadingIsSpelling : Type 0
ReadingIsSpelling =
    (words : List ℕ) (groups : ℕ) (t : PlainTree)
    → (read_code groups words ≡ Ok t) ↔ Spells words groups t
