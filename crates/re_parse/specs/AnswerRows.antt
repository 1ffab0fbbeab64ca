-- Worked rows of what is answered of a pattern, which compute.
use Rattle.std.specs.Prelude.{◌≡◌, refl, false, codes, Ok, Err}
use Rattle.re_tree.specs.Grammar.{Flags}
use Rattle.re_parse.specs.declared.error.TextError.TheVariants.{NotInGrammar, BadCount, BadReference, NotFixedWidth}
use Rattle.re_parse.specs.Answers.{answer_of}

abbrev plainly : Flags
plainly = record { ascii = false; multiline = false; dotall = false }

pub good_row : answer_of plainly (codes "(\\d+)-([a-z]+)") ≡ Ok tt
good_row = refl

pub two_counts_row : answer_of plainly (codes "a**") ≡ Err NotInGrammar
two_counts_row = refl

pub no_width_row : answer_of plainly (codes "(?<=a|bc)x") ≡ Err (NotFixedWidth 0)
no_width_row = refl

pub early_row : answer_of plainly (codes "\\1(a)") ≡ Err (BadReference 0)
early_row = refl

-- the count is at fault before the reference
pub least_row : answer_of plainly (codes "a{3,2}\\1") ≡ Err (BadCount 1)
least_row = refl
