use Rattle.ucdshop_core.proofs.program.run.Given as goal

abbrev pub ghosts-run_with_new_counter : goal.ghosts-run_with_new_counter
ghosts-run_with_new_counter g a = record { name = a.blank.name; parts = a.blank.parts }
