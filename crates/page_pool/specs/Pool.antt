-- Pools of pages, as contracts see them.
-- Pool              the words of all pages, one page behind the other, and for each page whether it is live
-- is_live pool p    page p is live (false past the last page)
-- word_of pool p a  the word at a, from 0 to 255, of page p (0 past the last page)
-- spare pool        how many pages are not live
-- IsFree live xs    the list xs has the numbers of the pages that are not live, each once
-- IsPool pool xs    what holds of every pool, and of the list of its pages that are not live
use Rattle.std.specs.Prelude.{◌≡◌, ℕ, ◌+◌, ◌*◌, ◌<◌, ◌≢◌, Bool, true, false, not, List, length, slice_index_or, count_by}

pub record Pool : Type 0 where
  pub words : List ℕ
  pub live : List Bool

abbrev pub is_live : Pool → ℕ → Bool
is_live pool p = slice_index_or pool.live p false

abbrev pub word_of : Pool → ℕ → ℕ → ℕ
word_of pool p a = slice_index_or pool.words (p * 256 + a) 0

abbrev pub spare : Pool → ℕ
spare pool = count_by not pool.live

pub record IsFree (live : List Bool) (xs : List ℕ) : Type 0 where
  pub listed : (i : ℕ) → i < length xs → slice_index_or live (slice_index_or xs i 0) true ≡ false
  pub apart : (i j : ℕ) → i < j → j < length xs → slice_index_or xs i 0 ≢ slice_index_or xs j 0
  pub all : length xs ≡ count_by not live

pub record IsPool (pool : Pool) (xs : List ℕ) : Type 0 where
  -- each page has 256 words
  pub words : length pool.words ≡ length pool.live * 256
  pub free : IsFree pool.live xs
