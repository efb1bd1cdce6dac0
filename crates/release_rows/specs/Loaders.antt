-- The loader of the code, as the definitions name it.
-- items_above l   the items so far
-- progress_of l   the file, its text and the items so far
-- IsSound l       its fields are IsLoading: so they are but after an error
-- IsLoaded file text items   these entries are the file's items, which put together are its text
-- LoadsList file text r      the result is that of the file: its entries, or its first fault
use Rattle.std.specs.Prelude.{◌≡◌, ℕ, ◌<◌, ◌^◌, List, map, length, Result, Ok, Err, All}
use Rattle.part_list.specs.Parts.{PartLists, now_in, next_in}
use Rattle.part_list.specs.declared.entry.Entry.{Entry}
use Rattle.release_rows.specs.FileItems.{FileItem, SourceFile}
use Rattle.release_rows.specs.Progress.{Progress, IsLoading}
use Rattle.release_rows.specs.Loading.{file_or_fault}
use Rattle.release_rows.specs.StoredItems.{stored_at, IsStored, IsWhole}
use Rattle.release_rows.specs.declared.load_stop.LoadStop.{LoadStop}
use Rattle.release_rows.specs.declared.load_stop.LoadStop.TheVariants.{Fault, Memory}
use Rattle.release_rows.specs.declared.stored_item.StoredItem.{StoredItem}
use Rattle.release_rows.specs.declared.loading.Loading.{Loading}

abbrev pub items_above : Loading → List FileItem
items_above l = map (stored_at l.file l.text.now) (now_in l.items)

abbrev pub progress_of : Loading → Progress
progress_of l = record { file = l.file; text = l.text.now; items = items_above l }

abbrev pub IsSound : Loading → Type 0
IsSound l = IsLoading l.file l.text.now l.items l.before l.lines l.end

pub record IsLoaded (file : SourceFile) (text : List ℕ) (items : PartLists (Entry StoredItem)) : Type 0 where
  pub answer : file_or_fault file text ≡ Ok (map (stored_at file text) (now_in items))
  pub same : next_in items ≡ now_in items
  pub each : All (IsStored file text) (now_in items)
  pub few : length (now_in items) < 2 ^ 32
  pub whole : IsWhole file text (now_in items)

abbrev pub LoadsList : SourceFile → List ℕ → Result (PartLists (Entry StoredItem)) LoadStop → Type 0
LoadsList file text (Ok items) = IsLoaded file text items
LoadsList file text (Err (Fault line rule)) = file_or_fault file text ≡ Err (record { line = line; rule = rule })
LoadsList file text (Err Memory) = Unit {0}
