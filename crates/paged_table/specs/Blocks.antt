-- Blocks of 256 values: one value throughout, or a page of words.
-- block_at xs b            block b of a list of blocks (past the last one: the value 0 throughout)
-- value_of pool x a        the value at place a, from 0 to 255, of the block x
-- values pool xs c         the value at a code point: at place c % 256 of block c / 256
-- is_page p x              the block x has page p
-- same_block x y           two blocks have the same value, or the same page
-- IsEven f                 the 256 values of f are equal
-- with_part f lo hi v      v at the places from lo to hi, both of them in it, and f elsewhere
-- IsOutside f lo hi v      f is v at each place outside of lo to hi
use Rattle.std.specs.Prelude.{◌≡◌, ℕ, ◌/◌, ◌%◌, ◌<◌, ◌⊎◌, Bool, false, ◌==◌, ◌&&◌, nat_le, List, slice_index_or, if◌then◌else◌}
use Rattle.page_pool.specs.Pool.{Pool, word_of}
use Rattle.paged_table.specs.declared.block.Block.{Block}
use Rattle.paged_table.specs.declared.block.Block.TheVariants.{One, Page}

abbrev pub block_at : List Block → ℕ → Block
block_at xs b = slice_index_or xs b (One 0)

abbrev pub value_of : Pool → Block → ℕ → ℕ
value_of pool (One v) a = v
value_of pool (Page p) a = word_of pool p a

abbrev pub values : Pool → List Block → ℕ → ℕ
values pool xs c = value_of pool (block_at xs (c / 256)) (c % 256)

abbrev pub is_page : ℕ → Block → Bool
is_page p (One v) = false
is_page p (Page q) = p == q

abbrev pub same_block : Block → Block → Bool
same_block (One v) (One w) = v == w
same_block (One v) (Page q) = false
same_block (Page p) (One w) = false
same_block (Page p) (Page q) = p == q

abbrev pub IsEven : (ℕ → ℕ) → Type 0
IsEven f = (a b : ℕ) → a < 256 → b < 256 → f a ≡ f b

abbrev pub with_part : (ℕ → ℕ) → ℕ → ℕ → ℕ → ℕ → ℕ
with_part f lo hi v a = if nat_le lo a && nat_le a hi then v else f a

abbrev pub IsOutside : (ℕ → ℕ) → ℕ → ℕ → ℕ → Type 0
IsOutside f lo hi v = (a : ℕ) → a < 256 → (a < lo) ⊎ (hi < a) → f a ≡ v
