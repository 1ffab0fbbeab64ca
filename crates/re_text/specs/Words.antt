-- The words of a pattern.
use Rattle.std.specs.Prelude.{ℕ, ◌+◌, List, [], ◌∷◌, ◌++◌, length, Option, Some, None}
use Rattle.sre_code.specs.declared.opcodes.TheConstants.{JUMP, FAILURE}
use Rattle.sre_code.specs.PlainTree.{PlainNode, PlainTrees, exists, exists_else, fail, nothing, ◌then◌, only}
use Rattle.sre_code.specs.Spelling.{spell}
use Rattle.re_tree.specs.PlainText.{PlainText, PlainTexts, Names, done, ◌also◌}
use Rattle.re_text.specs.Trees.{tree_of_text, tree_of_parts}

-- the words of the tree that a part is compiled to
abbrev pub words_of : Names → PlainText → List ℕ
words_of names r = spell (tree_of_text names r)

-- of parts, one after another
abbrev pub words_of_parts : Names → PlainTexts → List ℕ
words_of_parts names parts = spell (tree_of_parts names parts)

-- a conditional with one branch or two
abbrev pub either : ℕ → Names → PlainText → Option PlainText → PlainNode
either number names met None = exists number (tree_of_text names met)
either number names met (Some other) =
    exists_else number (tree_of_text names met) (tree_of_text names other)

-- the alternatives of no branch: nothing passes
abbrev pub no_alternative : PlainTrees
no_alternative = only (fail then nothing)

-- an alternative of these words, before n words of those after it
abbrev pub alternative : List ℕ → ℕ → List ℕ
alternative body n = (length body + 3) ∷ (body ++ JUMP ∷ (n + 1) ∷ [])

-- alternatives, and FAILURE after the last one
abbrev pub alternatives : Names → PlainTexts → List ℕ
alternatives names done = FAILURE ∷ []
alternatives names (r also rs) =
    let rest = alternatives names rs in alternative (words_of names r) (length rest) ++ rest
