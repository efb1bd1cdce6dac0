use Rattle.std.proofs.Common.{◌≡◌, ℕ, ◌<◌}
use Rattle.paged_table.specs.declared.block.Block.TheVariants.{One}
use Rattle.paged_table.specs.Blocks.{block_at}
use Rattle.paged_table.proofs.stretches.last_alike_block.Given as goal

abbrev pub invariant-loop-next : goal.invariant-loop-next
invariant-loop-next l = (b : ℕ) → l.block < b → b < l.next → block_at l.blocks b ≡ One l.value
