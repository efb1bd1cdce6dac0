-- The blocks next that have a list of their own, and blocks that are settled.
use Rattle.std.proofs.Common.{◌≡◌, ℕ, ◌/◌, ◌%◌, ◌<◌, List, [], ◌∷◌, length, refl, ap, ◌∙◌, arith}
use Rattle.page_pool.specs.Pool.{Pool, word_of}
use Rattle.paged_table.specs.declared.block.Block.{Block}
use Rattle.paged_table.specs.declared.block.Block.TheVariants.{One, Page}
use Rattle.paged_table.specs.Blocks.{block_at, value_of, values}
use Rattle.paged_table.specs.Paged.{blocks_next}

pub own_next : (xs ys : List Block) → 0 < length ys → blocks_next xs ys ≡ ys
own_next xs [] lt = absurd (omega arith)
own_next xs (y ∷ ys) lt = refl

module _ (pool pool' : Pool) (words : (p a : ℕ) → word_of pool' p a ≡ word_of pool p a) where
  same_value : (b : Block) (a : ℕ) → value_of pool' b a ≡ value_of pool b a
  same_value (One v) a = refl
  same_value (Page p) a = words p a

  pub settled_values : (xs ys : List Block) → ((b : ℕ) → block_at ys b ≡ block_at xs b) → (c : ℕ) → values pool' ys c ≡ values pool xs c
  settled_values xs ys same c = ap (λ b. value_of pool' b (c % 256)) (same (c / 256)) ∙ same_value (block_at xs (c / 256)) (c % 256)
