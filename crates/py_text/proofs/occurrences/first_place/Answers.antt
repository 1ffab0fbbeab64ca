use Rattle.std.proofs.Common.{ap, sym, ◌∙◌, Some}
use Rattle.py_text.proofs.OccursLemmas.{none_found, some_found}
use Rattle.py_text.proofs.occurrences.first_place.Goals as goal

pub returns-in-Some : goal.returns-in-Some
returns-in-Some c = ap Some c.places_before.ensures ∙ sym (some_found _ _ _ c.utf8.needle c.utf8.text c.in-Some.ensures.cases)

pub returns-in-None : goal.returns-in-None
returns-in-None c = sym (none_found _ _ c.utf8.needle c.utf8.text c.in-None.ensures.cases)
