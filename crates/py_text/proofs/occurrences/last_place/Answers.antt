use Rattle.std.proofs.Common.{ap, sym, ◌∙◌, Some}
use Rattle.py_text.proofs.OccursLemmas.{none_found_last, some_found_last}
use Rattle.py_text.proofs.occurrences.last_place.Goals as goal

pub returns-in-Some : goal.returns-in-Some
returns-in-Some c = ap Some c.places_before.ensures ∙ sym (some_found_last _ _ _ c.utf8.needle c.utf8.text c.in-Some.ensures.cases)

pub returns-in-None : goal.returns-in-None
returns-in-None c = sym (none_found_last _ _ c.utf8.needle c.utf8.text c.in-None.ensures.cases)
