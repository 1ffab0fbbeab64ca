use Rattle.rows_re.proofs.compiling.spans.Given as goal

abbrev pub ghosts-spans_by : goal.ghosts-spans_by
ghosts-spans_by a = record { name = a.blank.name; parts = a.blank.parts }
