-- The rows of a file, one after the other.
-- IsWalk file text items line   the items that are left stand in the text, the first on this line, and with two lines each their line
--                               numbers stay below 2^64
use Rattle.std.specs.Prelude.{ℕ, ◌+◌, ◌*◌, ◌<◌, ◌^◌, List, length, All}
use Rattle.ucd_points.specs.declared.files.SourceFile.{SourceFile}
use Rattle.part_list.specs.declared.entry.Entry.{Entry}
use Rattle.release_rows.specs.StoredItems.{IsStored}
use Rattle.release_rows.specs.declared.stored_item.StoredItem.{StoredItem}

pub record IsWalk (file : SourceFile) (text : List ℕ) (items : List (Entry StoredItem)) (line : ℕ) : Type 0 where
  pub each : All (IsStored file text) items
  pub fits : line + 2 * length items < 2 ^ 64
