-- A text that is read without a fault has a code.
use Rattle.std.proofs.Common.{◌≡◌, refl, ℕ, List, [], ◌∷◌, ◌++◌, arith}
use Rattle.std.specs.Prelude.{None}
use Rattle.sre_code.specs.Spelling.{spell}
use Rattle.re_tree.specs.PlainText.{PlainText, names_of, captures}
use Rattle.re_tree.specs.Grammar.{Flags, ReadsAs}
use Rattle.re_tree.specs.Faults.{fault_of}
use Rattle.re_text.specs.Trees.{tree_of_text}
use Rattle.re_text.specs.Laws.{IsCodeOf}
use Rattle.re_text.proofs.NoFaultLemmas.{good}
use Rattle.re_text.proofs.KindLemmas.{read_kinds}
use Rattle.re_text.proofs.CodeLemmas.{code_is}

pub has_code : (text : List ℕ) (flags : Flags) (r : PlainText) → ReadsAs text flags r → fault_of r ≡ None → IsCodeOf (spell (tree_of_text (names_of r) r) ++ 1 ∷ []) (captures r) r
has_code text flags r h f =
    let g = good r h.shape (read_kinds text flags r h) f in
    code_is (names_of r) (captures r) r (spell (tree_of_text (names_of r) r) ++ 1 ∷ []) refl (omega (arith, g.few)) refl h.shape (omega (arith, g.nested)) g.fits refl
