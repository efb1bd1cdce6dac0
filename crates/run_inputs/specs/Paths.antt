-- Where the files of a release lie below a folder.
-- source_in folder file    the path of a source file of a folder
-- sources_in folder        the paths of the source files of a folder, in order
-- derived_in folder file   the path of a derived file below a folder
use Rattle.std.specs.Prelude.{ℕ, List, map}
use Rattle.run_endings.specs.Paths.{path_in}
use Rattle.ucd_facts.specs.Names.{derived_path}
use Rattle.ucd_points.specs.SourceFiles.{source_files, source_path}
use Rattle.ucd_points.specs.declared.files.SourceFile.{SourceFile}
use Rattle.ucd_facts.specs.declared.files.DerivedFile.{DerivedFile}

abbrev pub source_in : List ℕ → SourceFile → List ℕ
source_in folder file = path_in folder (source_path file)

abbrev pub sources_in : List ℕ → List (List ℕ)
sources_in folder = map (source_in folder) source_files

abbrev pub derived_in : List ℕ → DerivedFile → List ℕ
derived_in folder file = path_in folder (derived_path file)
