use Rattle.rows_pattern.proofs.substitution.substituted.Given as goal

abbrev pub ghosts-substituted_by : goal.ghosts-substituted_by
ghosts-substituted_by a = record { name = a.blank.name; parts = a.blank.parts }
