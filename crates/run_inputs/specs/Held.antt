-- What is held at the paths that were read.
-- held_at held at              what is held at a place; None where nothing is, and past the last
-- source_held held first file  what is held of a source file of the folder whose first file is at this place
-- StayOutside first old new    what is held at each place stays, but for the files of that folder
use Rattle.std.specs.Prelude.{◌≡◌, ◌≤◌, ◌<◌, ℕ, ◌+◌, List, Option, None, slice_index_or}
use Rattle.ucd_points.specs.SourceFiles.{file_place}
use Rattle.ucd_points.specs.declared.files.SourceFile.{SourceFile}
use Rattle.run_endings.specs.Endings.{Seen}

abbrev pub held_at : Seen → ℕ → Option (List ℕ)
held_at held at = slice_index_or held at None

abbrev pub source_held : Seen → ℕ → SourceFile → Option (List ℕ)
source_held held first file = held_at held (first + file_place file)

pub record StayOutside (first : ℕ) (old new : Seen) : Type 0 where
  pub before : (at : ℕ) → at < first → held_at new at ≡ held_at old at
  pub behind : (at : ℕ) → first + 9 ≤ at → held_at new at ≡ held_at old at
