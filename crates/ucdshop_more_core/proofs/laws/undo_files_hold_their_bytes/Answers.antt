use Rattle.std.proofs.Common.{[], ◌∷◌, ◌++◌, map, codes}
use Rattle.ucd_points.specs.SourceFiles.{source_files, source_path}
use Rattle.ucd_facts.specs.Enumerations.{derived_files}
use Rattle.ucd_facts.specs.Names.{derived_path}
use Rattle.run_endings.specs.PathProofs.{apart_below, put_own}
use Rattle.ucdshop_more_core.specs.Run.{undo_ending}
use Rattle.ucdshop_more_core.proofs.laws.undo_files_hold_their_bytes.Goals as goal

pub returns : goal.returns
returns c = λ output depth draft holds. put_own (undo_ending output depth draft).files holds (apart_below output (map source_path source_files ++ map derived_path derived_files ++ codes "undo.log" ∷ []))
