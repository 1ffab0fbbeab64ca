use Rattle.rows_sre.proofs.program.status.Given as goal

abbrev pub ghosts-counted : goal.ghosts-counted
ghosts-counted a g = record { name = g.blank.name; parts = g.blank.parts }
