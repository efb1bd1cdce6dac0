use Rattle.bench_tests.proofs.editors.are_answered.Given as goal

abbrev pub ghosts-all_answered : goal.ghosts-all_answered
ghosts-all_answered a = record { name = a.blank.name; parts = a.blank.parts }
