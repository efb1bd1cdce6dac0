-- Laws of loaded files.
-- NoFaultBelow file above ps        no piece has a fault below the items above them all and those of the pieces above it
-- NoFault file ps                   no piece has a fault below the items of the pieces above it
-- FirstFaultBelow file above ps f   f is the fault of one of the pieces, and no piece above that one has a fault, below those
--                                   items
-- FirstFault file bytes fault       the fault of a piece of the file, where no piece above it has one
-- FaultsAreFirst                    a file is refused exactly by its first fault
-- LoadsExactly                      a file is loaded exactly where no piece has a fault, and then each piece is an item
-- BytesAreKept                      contents and endings of the items put together are the file's bytes
-- LoadedFilesAreSound               the items of a loaded file are sound, and none that LF alone ends ends in CR
-- Reloads file items                the bytes of the items are loaded as these items, if they are within the limit and no item that LF
--                                   alone ends ends in CR
-- ReloadsTheSame                    so it is of sound items
use Rattle.std.specs.Prelude.{◌≡◌, ◌↔◌, ℕ, ◌≤◌, List, [], ◌∷◌, ◌++◌, map, length, Some, None, Ok, Err, All}
use Rattle.ucd_points.specs.Limits.{file_limit}
use Rattle.ucd_points.specs.Lines.{items_of}
use Rattle.release_rows.specs.Cuts.{IsToldApart}
use Rattle.release_rows.specs.Pieces.{Lines, pieces}
use Rattle.release_rows.specs.FileItems.{FileItem, bytes_of, SourceFile}
use Rattle.release_rows.specs.Loading.{LoadFault, file_item, piece_fault, file_or_fault, load_or_fault}
use Rattle.release_rows.specs.Releases.{AreSound}

abbrev pub NoFaultBelow : SourceFile → List FileItem → List Lines → Type 0
NoFaultBelow file above ps = (front : List Lines) (p : Lines) (rest : List Lines) → ps ≡ front ++ p ∷ rest → piece_fault file (above ++ map (file_item file) front) p ≡ None

pub record FirstFaultBelow (file : SourceFile) (above : List FileItem) (ps : List Lines) (f : LoadFault) : Type 0 where
  pub front : List Lines
  pub piece : Lines
  pub rest : List Lines
  pub cut : ps ≡ front ++ piece ∷ rest
  pub none_before : NoFaultBelow file above front
  pub fault : piece_fault file (above ++ map (file_item file) front) piece ≡ Some f

abbrev pub NoFault : SourceFile → List Lines → Type 0
NoFault file ps = NoFaultBelow file [] ps

abbrev pub FirstFault : SourceFile → List ℕ → LoadFault → Type 0
FirstFault file bytes fault = FirstFaultBelow file [] (pieces file (items_of bytes)) fault

abbrev pub FaultsAreFirst : Type 0
FaultsAreFirst = (file : SourceFile) (bytes : List ℕ) (fault : LoadFault) → (file_or_fault file bytes ≡ Err fault) ↔ FirstFault file bytes fault

abbrev pub LoadsExactly : Type 0
LoadsExactly = (file : SourceFile) (bytes : List ℕ) (items : List FileItem) → (file_or_fault file bytes ≡ Ok items) ↔ (NoFault file (pieces file (items_of bytes)) × (map (file_item file) (pieces file (items_of bytes)) ≡ items))

abbrev pub BytesAreKept : Type 0
BytesAreKept = (file : SourceFile) (bytes : List ℕ) (items : List FileItem) → file_or_fault file bytes ≡ Ok items → bytes_of items ≡ bytes

abbrev pub LoadedFilesAreSound : Type 0
LoadedFilesAreSound = (file : SourceFile) (bytes : List ℕ) (items : List FileItem) → file_or_fault file bytes ≡ Ok items → AreSound file items × All IsToldApart items

abbrev pub Reloads : SourceFile → List FileItem → Type 0
Reloads file items = All IsToldApart items → length (bytes_of items) ≤ file_limit → load_or_fault file (bytes_of items) ≡ Ok items

abbrev pub ReloadsTheSame : Type 0
ReloadsTheSame = (file : SourceFile) (items : List FileItem) → AreSound file items → Reloads file items
