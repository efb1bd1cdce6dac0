use Rattle.std.proofs.Common.{◌≡◌, ℕ, ◌≤◌}
use Rattle.page_pool.specs.Pool.{word_of}
use Rattle.paged_table.proofs.stretches.last_alike_in_block.Given as goal

abbrev pub invariant-loop-next : goal.invariant-loop-next
invariant-loop-next l = (a : ℕ) → l.at ≤ a → a ≤ l.next → word_of l.pool l.page a ≡ word_of l.pool l.page l.at
