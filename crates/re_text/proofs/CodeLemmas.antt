-- The words of a text's tree are its code.
use Rattle.std.proofs.Common.{◌≡◌, ◌∙◌, ap, ℕ, ◌≤◌, List, [], ◌∷◌, ◌++◌}
use Rattle.std.specs.Prelude.{None}
use Rattle.sre_code.specs.Spelling.{spell}
use Rattle.re_tree.specs.PlainText.{PlainText, Names, names_of, captures}
use Rattle.re_tree.specs.Grammar.{IsRegex}
use Rattle.re_text.specs.Trees.{tree_of_text}
use Rattle.re_text.specs.Fits.{text_fits, parens}
use Rattle.re_text.specs.Laws.{IsCodeOf}
use Rattle.re_text.specs.Outcomes.{outcomes}
use Rattle.re_text.proofs.FitLemmas.{has_spelling}
use Rattle.re_text.proofs.MeaningLemmas.{means}

pub code_is : (names : Names) (groups : ℕ) (r : PlainText) (words : List ℕ) → names ≡ names_of r → groups ≤ 65535 → groups ≡ captures r → IsRegex 0 r → parens r ≤ 60 → text_fits names groups r
    → words ≡ spell (tree_of_text names r) ++ 1 ∷ [] → IsCodeOf words groups r
code_is names groups r words named count captured shape nesting fits e = record {
  tree = tree_of_text names r;
  spelled = record { fits = has_spelling names groups r count fits shape nesting; block = None; are = e };
  count = captured;
  means = λ n p s m within enough. means names groups r fits n s enough p m within ∙ ap (λ l. outcomes n l r s p m) named;
}
