use Rattle.rows_sre.proofs.walks.text_spans.Given as goal

abbrev pub ghosts-text_spans_by : goal.ghosts-text_spans_by
ghosts-text_spans_by a = record { name = a.blank.name; parts = a.blank.parts }
