use Rattle.rows_sre.proofs.cursors.metered.Given as goal

abbrev pub ghosts-metered_by : goal.ghosts-metered_by
ghosts-metered_by a = record { name = a.blank.name; parts = a.blank.parts }
