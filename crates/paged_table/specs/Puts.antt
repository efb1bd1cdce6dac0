-- What becomes of the pages where a part of a block is given a value.
-- StaysPage pool pool' p                   page p is live in the pool after, and has the words that it had
-- Puts pool pool' now next new lo hi v     next is set to v from lo to hi, and is new then; the pool was pool, and is pool';
--                                          now stays as it is
use Rattle.std.specs.Prelude.{◌≡◌, ℕ, ◌<◌, true, false}
use Rattle.page_pool.specs.Pool.{Pool, is_live, word_of}
use Rattle.paged_table.specs.declared.block.Block.{Block}
use Rattle.paged_table.specs.Blocks.{value_of, is_page, with_part, IsEven}

pub record StaysPage (pool pool' : Pool) (p : ℕ) : Type 0 where
  pub live : is_live pool' p ≡ true
  pub words : (a : ℕ) → a < 256 → word_of pool' p a ≡ word_of pool p a

pub record Puts (pool pool' : Pool) (now next new : Block) (lo hi v : ℕ) : Type 0 where
  pub values : (a : ℕ) → a < 256 → value_of pool' new a ≡ with_part (value_of pool next) lo hi v a
  -- a page of the block is live, and its words are not all equal
  pub live : (p : ℕ) → is_page p new ≡ true → is_live pool' p ≡ true
  pub tight : (p : ℕ) → is_page p new ≡ true → ¬ (IsEven (word_of pool' p))
  -- the page that now reads stays
  pub now_stays : (p : ℕ) → is_page p now ≡ true → StaysPage pool pool' p
  -- so do the pages of other blocks, and none of them is taken
  pub others_stay : (p : ℕ) → is_page p now ≡ false → is_page p next ≡ false → is_live pool p ≡ true → StaysPage pool pool' p
  pub others_apart : (p : ℕ) → is_page p now ≡ false → is_page p next ≡ false → is_live pool p ≡ true → is_page p new ≡ false
  -- a page that next alone had goes, and no page becomes live but that of the block
  pub gone : (p : ℕ) → is_page p now ≡ false → is_page p next ≡ true → is_page p new ≡ false → is_live pool' p ≡ false
  pub others_free : (p : ℕ) → is_page p now ≡ false → is_page p next ≡ false → is_page p new ≡ false → is_live pool p ≡ false → is_live pool' p ≡ false
