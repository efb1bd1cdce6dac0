use Rattle.run_inputs.specs.Held.{source_held}
use Rattle.run_inputs.specs.Verdict.{file_verdict}
use Rattle.run_inputs.proofs.LoadingLemmas.{IsLoadedTo, MovesTo}
use Rattle.run_inputs.proofs.judging.load_sources.Given as goal

-- the files before this one are loaded, and the others are held as they were
abbrev pub invariant-files : goal.invariant-files
invariant-files l = record {
  loaded : IsLoadedTo (λ file. file_verdict file (source_held l.initial.held.items l.first file)) l.at l.release;
  moves : MovesTo l.initial.held.items l.held.items l.first l.at;
}
