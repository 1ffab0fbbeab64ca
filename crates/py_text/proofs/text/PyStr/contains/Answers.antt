use Rattle.std.proofs.Common.{◌∙◌, length}
use Rattle.std.specs.Prelude.{is_some}
use Rattle.py_text.specs.Occurrences.{first_in}
use Rattle.py_text.proofs.OccursLemmas.{contained}
use Rattle.py_text.proofs.text.PyStr.contains.Goals as goal

pub returns : goal.returns
returns c =
    c.is_some.ensures ∙ contained c.find.result c.as_str-2.result.now c.as_str.result.now c.as_str-2.utf8 c.as_str.utf8 c.find.ensures.cases
    ∙ (λ j. is_some (first_in (c.as_str-2.ensures.value j) (c.as_str.ensures.value j) 0 (length (c.as_str.ensures.value j))))
