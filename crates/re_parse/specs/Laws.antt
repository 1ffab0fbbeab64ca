-- The law of the first pass over a pattern.
use Rattle.std.specs.Prelude.{◌≡◌, List, ℕ}
use Rattle.re_tree.specs.Grammar.{Flags}
use Rattle.re_tree.specs.Machine.{read_tree}
use Rattle.re_tree.specs.Faults.{diagnosis_of}
use Rattle.re_parse.specs.FirstPass.{first_pass}

abbrev pub FirstPassAgreesWithTheTree : Type 0
FirstPassAgreesWithTheTree = (text : List ℕ) (flags : Flags)
    → first_pass flags text ≡ diagnosis_of (read_tree flags text)
