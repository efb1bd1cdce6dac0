use Rattle.std.proofs.Common.{◌≡◌, ℕ, ◌<◌, ◌⊎◌}
use Rattle.page_pool.specs.Pool.{word_of}
use Rattle.paged_table.proofs.part.has_one_value_outside.Given as goal

abbrev pub invariant-loop-at : goal.invariant-loop-at
invariant-loop-at l = (a : ℕ) → a < l.at → (a < l.lo) ⊎ (l.hi < a) → word_of l.pool l.page a ≡ l.value
