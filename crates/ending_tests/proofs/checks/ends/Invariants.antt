use Rattle.ending_tests.proofs.checks.ends.Given as goal

abbrev pub ghosts-check_anew : goal.ghosts-check_anew
ghosts-check_anew a = record { name = a.blank.name; parts = a.blank.parts }
