use Rattle.bench_use.proofs.main.Given as goal

abbrev pub ghosts-use_bench : goal.ghosts-use_bench
ghosts-use_bench a = record { name = a.blank.name; parts = a.blank.parts }
