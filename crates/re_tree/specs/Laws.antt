-- Laws of patterns and their trees.
use Rattle.std.specs.Prelude.{◌≡◌, ◌↔◌, List, ℕ, Some}
use Rattle.re_tree.specs.PlainText.{PlainText}
use Rattle.re_tree.specs.Tokens.{tokens_of}
use Rattle.re_tree.specs.Grammar.{IsRegex, Flags, ReadsAs}
use Rattle.re_tree.specs.Machine.{read_tree}

-- no tokens are those of two trees
abbrev pub NoTokensOfTwoTrees : Type 0
NoTokensOfTwoTrees = (r q : PlainText) → IsRegex 0 r → IsRegex 0 q → tokens_of r ≡ tokens_of q
    → r ≡ q

-- one pattern and flags read as at most one tree
abbrev pub OneTreeForOneText : Type 0
OneTreeForOneText = (text : List ℕ) (flags : Flags) (r q : PlainText) → ReadsAs text flags r
    → ReadsAs text flags q → r ≡ q

-- a pattern reads as a tree exactly where the reading function gives it
abbrev pub ReadingIsTheGrammar : Type 0
ReadingIsTheGrammar = (text : List ℕ) (flags : Flags) (r : PlainText)
    → ReadsAs text flags r ↔ (read_tree flags text ≡ Some r)
