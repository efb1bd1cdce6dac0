use Rattle.std.proofs.Common.{[], ◌∷◌, ◌++◌, map, codes}
use Rattle.ucd_points.specs.SourceFiles.{source_files, source_path}
use Rattle.run_endings.specs.PathProofs.{apart_below, put_own}
use Rattle.ucdshop_more_core.specs.Run.{desk_ending}
use Rattle.ucdshop_more_core.proofs.laws.desk_files_hold_their_bytes.Goals as goal

pub returns : goal.returns
returns c = λ output session holds. put_own (desk_ending output session).files holds (apart_below output (map source_path source_files ++ codes "desk.log" ∷ []))
