-- The blocks of all code points, twice: as they are now, and as they are next.
-- uses xs ys b p           block b has page p, in xs or in ys
-- IsUnused xs ys p         no block has page p, in xs or in ys
-- IsApart pool xs ys       what holds of the two lists of blocks, now and next, and their pages
-- IsFilled v xs            xs has the blocks of all code points, with the value v throughout
-- listed ts b              block b is in the list ts
-- Covers ts xs ys          the lists of blocks differ in blocks of ts alone
use Rattle.std.specs.Prelude.{◌≡◌, ℕ, ◌<◌, Bool, true, false, ◌==◌, ◌||◌, List, length, slice_index_or}
use Rattle.std.specs.List.{list_any}
use Rattle.page_pool.specs.Pool.{Pool, is_live, word_of}
use Rattle.paged_table.specs.declared.block.Block.{Block}
use Rattle.paged_table.specs.declared.block.Block.TheVariants.{One}
use Rattle.paged_table.specs.Blocks.{block_at, is_page, IsEven}

abbrev pub uses : List Block → List Block → ℕ → ℕ → Bool
uses xs ys b p = is_page p (block_at xs b) || is_page p (block_at ys b)

abbrev pub IsUnused : List Block → List Block → ℕ → Type 0
IsUnused xs ys p = (b : ℕ) → uses xs ys b p ≡ false

pub record IsApart (pool : Pool) (xs ys : List Block) : Type 0 where
  pub count : length xs ≡ 4352
  pub count_next : length ys ≡ 4352
  -- a page of a block is live
  pub live : (b p : ℕ) → uses xs ys b p ≡ true → is_live pool p ≡ true
  -- no two blocks have one page
  pub apart : (b d p : ℕ) → uses xs ys b p ≡ true → uses xs ys d p ≡ true → b ≡ d
  -- a block of equal values has no page
  pub tight : (b p : ℕ) → uses xs ys b p ≡ true → ¬ (IsEven (word_of pool p))
  -- a page of no block is not live
  pub unused : (p : ℕ) → IsUnused xs ys p → is_live pool p ≡ false

abbrev pub listed : List ℕ → ℕ → Bool
listed ts b = list_any (λ x. x == b) ts

pub record Covers (ts : List ℕ) (xs ys : List Block) : Type 0 where
  -- each of them is a block
  pub blocks : (i : ℕ) → i < length ts → slice_index_or ts i 0 < 4352
  pub others : (b : ℕ) → listed ts b ≡ false → block_at ys b ≡ block_at xs b

pub record IsFilled (v : ℕ) (xs : List Block) : Type 0 where
  pub count : length xs ≡ 4352
  pub all : (b : ℕ) → b < 4352 → block_at xs b ≡ One v
