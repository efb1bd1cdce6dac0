-- The keys of rows that are compared once all of them are there.
-- placed_of entry           what is put behind them: the key of a row, and nothing of trivia
-- AreGathered file rows ps  they are those of the rows, in their order
use Rattle.std.specs.Prelude.{◌≡◌, List, [], ◌∷◌, map, Option, Some, None, All}
use Rattle.release_rows.specs.Chains.{IsOrderedPlace, placed_extent}
use Rattle.release_rows.specs.Keys.{extent_in, SourceFile, Row}
use Rattle.release_rows.specs.declared.loaded_row.LoadedRow.{LoadedRow}
use Rattle.release_rows.specs.declared.keyed_extent.KeyedExtent.{KeyedExtent}

abbrev pub placed_of : Option LoadedRow → List KeyedExtent
placed_of None = []
placed_of (Some e) = record { place = e.place; last = e.last } ∷ []

pub record AreGathered (file : SourceFile) (rows : List Row) (placed : List KeyedExtent) : Type 0 where
  pub same : map placed_extent placed ≡ map (extent_in file) rows
  pub ordered : All IsOrderedPlace placed
