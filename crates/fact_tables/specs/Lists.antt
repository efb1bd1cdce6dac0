-- A list of code points for each code point, kept in one pool.
--
-- slice_at pool place   the part of the pool at a place
-- lists_at pool places  the list of each code point, where each has a place
-- LiesIn len place      the place lies in a pool of this length
-- Lie len places        all places do
use Rattle.std.specs.Prelude.{ℕ, ◌<◌, ◌≤◌, List, slice_range}
use Rattle.fact_tables.specs.declared.pool_range.PoolRange.{PoolRange}

abbrev pub slice_at : List ℕ → PoolRange → List ℕ
slice_at pool place = slice_range pool place.start place.end

abbrev pub lists_at : List ℕ → (ℕ → PoolRange) → ℕ → List ℕ
lists_at pool places c = slice_at pool (places c)

pub record LiesIn (len : ℕ) (place : PoolRange) : Type 0 where
  pub ordered : place.start ≤ place.end
  pub within : place.end ≤ len

abbrev pub Lie : ℕ → (ℕ → PoolRange) → Type 0
Lie len places = (c : ℕ) → c < 1114112 → LiesIn len (places c)
