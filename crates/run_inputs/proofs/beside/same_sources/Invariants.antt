use Rattle.std.proofs.Common.{◌≡◌, ℕ, ◌+◌, ◌<◌}
use Rattle.run_inputs.specs.Held.{held_at}
use Rattle.run_inputs.proofs.beside.same_sources.Given as goal

-- the files so far are the same
abbrev pub invariant-files : goal.invariant-files
invariant-files l = (at : ℕ) → at < l.place → held_at l.held (l.second + at) ≡ held_at l.held (l.first + at)
