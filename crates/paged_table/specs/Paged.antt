-- Paged tables, as contracts see them.
-- Paged              the pool, and the blocks now and next
-- blocks_next xs ys  the blocks next, if xs are those now, and ys is their own list, which is empty if they are those now
-- values_now t       the values now
-- values_next t      the values next
use Rattle.std.specs.Prelude.{ℕ, List, [], ◌∷◌}
use Rattle.page_pool.specs.Pool.{Pool}
use Rattle.paged_table.specs.declared.block.Block.{Block}
use Rattle.paged_table.specs.Blocks.{values}

pub record Paged : Type 0 where
  pub pool : Pool
  pub committed : List Block
  pub prepared : List Block

abbrev pub blocks_next : List Block → List Block → List Block
blocks_next xs [] = xs
blocks_next xs (y ∷ ys) = y ∷ ys

abbrev pub values_now : Paged → ℕ → ℕ
values_now t = values t.pool t.committed

abbrev pub values_next : Paged → ℕ → ℕ
values_next t = values t.pool t.prepared
