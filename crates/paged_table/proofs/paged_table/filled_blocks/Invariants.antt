use Rattle.std.proofs.Common.{◌≡◌, ℕ, ◌<◌, ◌≤◌, vec_len, vec_capacity}
use Rattle.paged_table.specs.declared.block.Block.TheVariants.{One}
use Rattle.paged_table.specs.Blocks.{block_at}
use Rattle.paged_table.proofs.paged_table.filled_blocks.Given as goal

abbrev pub invariant-loop : goal.invariant-loop
invariant-loop l = record {
  len : vec_len l.blocks ≡ l.counter;
  room : 4352 ≤ vec_capacity l.blocks;
  all : (b : ℕ) → b < l.counter → block_at l.blocks.items b ≡ One l.value;
}
