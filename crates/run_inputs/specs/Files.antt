-- What is written of a release below a folder.
-- source_file folder files file    a source file as it is among these files: its path below the folder, with its bytes
-- derived_file folder files file   a derived file of these files: its path below the folder, with its bytes
use Rattle.std.specs.Prelude.{ℕ, List}
use Rattle.ucd_points.specs.Limits.{point_count}
use Rattle.ucd_model.specs.DerivedFiles.{derived_text}
use Rattle.ucd_model.specs.Records.{record_at}
use Rattle.ucd_facts.specs.declared.files.DerivedFile.{DerivedFile}
use Rattle.release_rows.specs.FileItems.{FileItem, bytes_of, SourceFile}
use Rattle.release_rows.specs.Releases.{items_at}
use Rattle.edit_session.specs.Groups.{files_facts}
use Rattle.run_endings.specs.Endings.{NewFile}
use Rattle.run_inputs.specs.Paths.{derived_in, source_in}

abbrev pub source_file : List ℕ → List (List FileItem) → SourceFile → NewFile
source_file folder files file = record { path = source_in folder file; bytes = bytes_of (items_at files file) }

abbrev pub derived_file : List ℕ → List (List FileItem) → DerivedFile → NewFile
derived_file folder files file = record { path = derived_in folder file; bytes = derived_text point_count file (record_at (files_facts files)) }
