use Rattle.rows_sre.proofs.large.first.Given as goal

abbrev pub ghosts-first_by : goal.ghosts-first_by
ghosts-first_by a = record { name = a.blank.name; parts = a.blank.parts }
