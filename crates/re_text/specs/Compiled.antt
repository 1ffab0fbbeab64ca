-- What contracts see of a compiled pattern.
use Rattle.std.specs.Prelude.{◌≡◌, ℕ, List, ◌++◌, Option, Some, None, refl}
use Rattle.std.specs.Coded.{Coded, code_by, coded×, coded_ℕ, coded_list}
use Rattle.re_tree.specs.PlainText.{PlainText, Names, names_of, captures}
use Rattle.re_tree.specs.Grammar.{Flags, ReadsAs}
use Rattle.re_text.specs.Laws.{IsCodeOf}

-- the code words, the number of groups, and the named groups with their numbers, in order
pub record PlainCode : Type 0 where
  pub words : List ℕ
  pub groups : ℕ
  pub names : Names

abbrev pub plain_code_code : Coded PlainCode
plain_code_code =
    code_by (List ℕ × (ℕ × Names))
    (coded× (coded_list coded_ℕ) (coded× coded_ℕ (coded_list (coded× (coded_list coded_ℕ) coded_ℕ))))
    (λ c. (c.words, (c.groups, c.names)))
    (λ p. record { words = p.0; groups = p.1.0; names = p.1.1 })
    (λ _. refl)

-- the names in the branches of a conditional, and how many groups its second branch captures
abbrev pub names_in_either : PlainText → Option PlainText → Names
names_in_either met None = names_of met
names_in_either met (Some other) = names_of met ++ names_of other

abbrev pub captures_or_zero : Option PlainText → ℕ
captures_or_zero None = 0
captures_or_zero (Some r) = captures r

-- The pattern reads as one tree, and this is a code of it: the words spell one tree of a code, whose
-- attempts pass as the pattern's own outcomes say, at every place of every subject. The names are
-- those of the pattern.
pub record IsCompiled (text : List ℕ) (flags : Flags) (code : PlainCode) : Type 0 where
  pub tree : PlainText
  pub reads : ReadsAs text flags tree
  pub is_code : IsCodeOf code.words code.groups tree
  pub names : code.names ≡ names_of tree
