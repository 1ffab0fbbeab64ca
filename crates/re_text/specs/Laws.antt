-- What the words of a pattern mean.
use Rattle.std.specs.Prelude.{◌≡◌, ℕ, ◌+◌, ◌≤◌, List, [], ◌∷◌, ◌++◌, length, Some, None}
use Rattle.sre_code.specs.PlainTree.{PlainTree}
use Rattle.sre_code.specs.Spelling.{Spells, spell}
use Rattle.sre_match.specs.Attempts.{Attempt, failed, passed, Marks}
use Rattle.sre_match.specs.Paths.{paths}
use Rattle.re_tree.specs.PlainText.{PlainText, Names, names_of, captures}
use Rattle.re_tree.specs.Grammar.{Flags, ReadsAs}
use Rattle.re_tree.specs.Faults.{fault_of}
use Rattle.re_text.specs.Outcomes.{Outcome, outcomes}
use Rattle.re_tree.specs.Widths.{width}
use Rattle.re_text.specs.Trees.{tree_of_text}
use Rattle.re_text.specs.Fits.{text_fits}

-- the ends and captures of the attempts that pass
abbrev pub passes : List Attempt → List Outcome
passes [] = []
passes (failed c ∷ rest) = passes rest
passes (passed c e m ∷ rest) = (e, m) ∷ passes rest

-- at every place of every subject the tree's attempts pass as the pattern's own outcomes say
abbrev pub MeansTheText : PlainTree → Names → PlainText → Type 0
MeansTheText t names r = (n p : ℕ) (s : List ℕ) (m : Marks) → p ≤ length s → length s + 2 ≤ n
    → passes (paths t s p m) ≡ outcomes n names r s p m

-- the words spell one tree, which means the pattern
pub record IsCodeOf (words : List ℕ) (groups : ℕ) (r : PlainText) : Type 0 where
  pub tree : PlainTree
  pub spelled : Spells words groups tree
  pub count : groups ≡ captures r
  pub means : MeansTheText tree (names_of r) r

-- all end at e
abbrev pub AllEndAt : ℕ → List Outcome → Type 0
AllEndAt e [] = Unit {0}
AllEndAt e (o ∷ rest) = (o.0 ≡ e) × AllEndAt e rest

-- a part of a width passes over that many units, whatever it matches
abbrev pub WidthsAreKept : Type 0
WidthsAreKept = (n : ℕ) (names : Names) (r : PlainText) (s : List ℕ) (p k : ℕ) (m : Marks)
    → width r ≡ Some k → AllEndAt (p + k) (outcomes n names r s p m)

-- the tree of a pattern that fits means the pattern
abbrev pub TheTreeMeansTheText : Type 0
TheTreeMeansTheText = (names : Names) (groups : ℕ) (r : PlainText) → text_fits names groups r
    → MeansTheText (tree_of_text names r) names r

-- a pattern that is read without a fault has this code
abbrev pub EveryTextHasACode : Type 0
EveryTextHasACode = (text : List ℕ) (flags : Flags) (r : PlainText) → ReadsAs text flags r
    → fault_of r ≡ None → IsCodeOf (spell (tree_of_text (names_of r) r) ++ 1 ∷ []) (captures r) r
