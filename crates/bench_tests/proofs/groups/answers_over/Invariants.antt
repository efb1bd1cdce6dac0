use Rattle.bench_tests.proofs.groups.answers_over.Given as goal

abbrev pub ghosts-all_answered : goal.ghosts-all_answered
ghosts-all_answered a = record { name = a.blank.name; parts = a.blank.parts }
