-- Blocks of 256 code points, and whether their values are equal, as functions of the code point.
-- block_count          there are 4352 blocks
-- block_width          of 256 code points each
-- in_block f b         the 256 values of block b: those from code point 256 b on
-- IsEvenBlock f b      they are equal
-- all_same f v n       the first n of f are equal to v
-- even_block f b       whether they are equal
-- uneven_count f n     how many of the first n blocks have several values
-- EvenBlocksAreTold    even_block tells exactly which blocks have equal values
-- ShowsPage ..         a page shows the values of a block that has several values; no page, that they are equal
use Rattle.std.specs.Prelude.{◌≡◌, ℕ, zero, suc, ◌+◌, ◌*◌, ◌<◌, Bool, true, not, ◌==◌, ◌&&◌, Option, None, Some, Decides}
use Rattle.std.specs.List.{count_by, range_with_len}
use Rattle.page_pool.specs.Pool.{Pool, is_live, word_of}
use Rattle.paged_table.specs.Blocks.{IsEven}

unfoldable pub block_count : ℕ
block_count = 4352

unfoldable pub block_width : ℕ
block_width = 256

abbrev pub in_block : (ℕ → ℕ) → ℕ → ℕ → ℕ
in_block f b a = f (b * 256 + a)

abbrev pub IsEvenBlock : (ℕ → ℕ) → ℕ → Type 0
IsEvenBlock f b = IsEven (in_block f b)

abbrev pub all_same : (ℕ → ℕ) → ℕ → ℕ → Bool
all_same f v zero = true
all_same f v (suc n) = all_same f v n && f n == v

unfoldable pub even_block : (ℕ → ℕ) → ℕ → Bool
even_block f b = all_same (in_block f b) (in_block f b 0) block_width

abbrev pub EvenBlocksAreTold : Type 0
EvenBlocksAreTold = (f : ℕ → ℕ) (b : ℕ) → Decides (even_block f b) (IsEvenBlock f b)

abbrev pub uneven_count : (ℕ → ℕ) → ℕ → ℕ
uneven_count f n = count_by (λ b. not (even_block f b)) (range_with_len 0 n)

pub record IsPageOf (pool : Pool) (f : ℕ → ℕ) (b p : ℕ) : Type 0 where
  pub live : is_live pool p ≡ true
  pub words : (a : ℕ) → a < 256 → word_of pool p a ≡ in_block f b a
  pub uneven : ¬ (IsEvenBlock f b)

abbrev pub ShowsPage : Pool → (ℕ → ℕ) → ℕ → Option ℕ → Type 0
ShowsPage pool f b None = IsEvenBlock f b
ShowsPage pool f b (Some p) = IsPageOf pool f b p
