use Rattle.rows_pattern.proofs.many.all.Given as goal

abbrev pub ghosts-all_by : goal.ghosts-all_by
ghosts-all_by a = record { name = a.blank.name; parts = a.blank.parts }
