use Rattle.ucdshop_look_core.proofs.program.run_look.Given as goal

abbrev pub ghosts-run_with_new_counter : goal.ghosts-run_with_new_counter
ghosts-run_with_new_counter g a = record { name = a.blank.name; parts = a.blank.parts }
