use Rattle.rows_sre.proofs.walks.spans.Given as goal

abbrev pub ghosts-spans_by : goal.ghosts-spans_by
ghosts-spans_by a = record { name = a.blank.name; parts = a.blank.parts }
