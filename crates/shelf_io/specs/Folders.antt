-- Words on shelves in memory.
--   held_at files path       the bytes of the first file of this path in a list of files
--   Folder                   files in memory, and for how many more there is room
--   held_in folder path      the bytes of this path, None where it is not held
--   no_folder                no file, and no room
--   MemoryView               a MemoryShelf as its callers see it
--   new_view                 it holds nothing, and no call was made
--   after_read answer path view    the shelf after a read of this path had this answer
use Rattle.std.specs.Prelude.{ℕ, List, [], Option, Result, Ok, Err, option_map, find, bytes_eq}
use Rattle.shelf_io.specs.Counts.{Calls, no_calls, passed, failed}
use Rattle.shelf_io.specs.declared.memory_files.File.{File}
use Rattle.shelf_io.specs.declared.shelf.Found.{Found}
use Rattle.shelf_io.specs.declared.shelf.ReadStop.{ReadStop}
use Rattle.shelf_io.specs.declared.shelf.ReadStop.TheVariants.{Failed, Memory}

abbrev pub held_at : List File → List ℕ → Option (List ℕ)
held_at files path = option_map (λ file. file.bytes) (find (λ file. bytes_eq file.path path) files)

pub record Folder : Type 0 where
  pub files : List File
  pub spare : ℕ

abbrev pub held_in : Folder → List ℕ → Option (List ℕ)
held_in folder = held_at folder.files

abbrev pub no_folder : Folder
no_folder = record { files = []; spare = 0 }

pub record MemoryView : Type 0 where
  pub folder : Folder
  pub reads : Calls
  pub writes : Calls
  pub last_failed : List ℕ

abbrev pub new_view : MemoryView
new_view = record { folder = no_folder; reads = no_calls; writes = no_calls; last_failed = [] }

abbrev pub after_read : Result Found ReadStop → List ℕ → MemoryView → MemoryView
after_read (Ok _) path view = record view { reads = passed view.reads }
after_read (Err Failed) path view = record view { reads = failed view.reads; last_failed = path }
after_read (Err Memory) path view = view
