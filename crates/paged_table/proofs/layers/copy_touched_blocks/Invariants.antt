use Rattle.std.proofs.Common.{◌≡◌, ℕ, false, drop}
use Rattle.page_pool.specs.Pool.{word_of}
use Rattle.paged_table.specs.Blocks.{block_at}
use Rattle.paged_table.specs.Layers.{IsApart, listed}
use Rattle.paged_table.proofs.layers.copy_touched_blocks.Given as goal

abbrev pub invariant-loop-block : goal.invariant-loop-block
invariant-loop-block l = record {
  apart : IsApart l.pool l.from l.into;
  words : (p a : ℕ) → word_of l.pool p a ≡ word_of l.fn.pool p a;
  same : (b : ℕ) → listed (drop l.block-index l.touched) b ≡ false → block_at l.into b ≡ block_at l.from b;
}
