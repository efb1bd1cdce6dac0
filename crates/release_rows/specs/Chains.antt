-- Rows in the order of their keys.
-- placed_extent row     the names of the row's key, and its code points
-- IsOrderedPlace row    the row does not end before it begins
-- places_meet a b       the rows have the same names and share a code point
-- ends_before a b       the names of a come before those of b, or they are the same, and a ends before b begins
-- IsChain rows          each row ends before the next one
use Rattle.std.specs.Prelude.{◌≡◌, ℕ, ◌+◌, ◌<◌, ◌≤◌, Bool, true, List, length, slice_index_or}
use Rattle.std.specs.Ordering.{is_lt}
use Rattle.release_rows.specs.Extents.{Extent, meets}
use Rattle.release_rows.specs.Places.{extent_at, place_cmp}
use Rattle.release_rows.specs.declared.sort_key.SortKey.{SortKey}
use Rattle.release_rows.specs.declared.keyed_extent.KeyedExtent.{KeyedExtent}

abbrev pub placed_extent : KeyedExtent → Extent
placed_extent row = extent_at row.place row.last

abbrev pub IsOrderedPlace : KeyedExtent → Type 0
IsOrderedPlace row = row.place.code ≤ row.last

abbrev pub places_meet : KeyedExtent → KeyedExtent → Bool
places_meet a b = meets (placed_extent a) (placed_extent b)

abbrev pub end_place : KeyedExtent → SortKey
end_place row = record { names = row.place.names; code = row.last }

abbrev pub ends_before : KeyedExtent → KeyedExtent → Bool
ends_before a b = is_lt (place_cmp (end_place a) b.place)

abbrev pub IsChain : List KeyedExtent → Type 0
IsChain rows = (i : ℕ) (d : KeyedExtent) → i + 1 < length rows → ends_before (slice_index_or rows i d) (slice_index_or rows (i + 1) d) ≡ true
