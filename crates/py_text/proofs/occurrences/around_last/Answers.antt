use Rattle.py_text.proofs.OccursLemmas.{none_found_last, some_cut_last}
use Rattle.py_text.proofs.occurrences.around_last.Goals as goal

pub returns-in-Some-clause-around : goal.returns-in-Some-clause-around
returns-in-Some-clause-around c = rw (c.split_at.ensures.front, c.split_at-in-Some.ensures.back, c.split_at.ensures.back) (some_cut_last _ _ _ c.utf8.needle c.utf8.text c.in-Some.ensures.cases)

pub returns-in-None-clause-around : goal.returns-in-None-clause-around
returns-in-None-clause-around c = none_found_last _ _ c.utf8.needle c.utf8.text c.in-None.ensures.cases
