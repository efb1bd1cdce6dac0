use Rattle.std.proofs.Common.{take, map}
use Rattle.run_endings.specs.Planning.{Puts}
use Rattle.ucdshop_jobs.specs.Run.{made_file}
use Rattle.ucdshop_core.proofs.outputs.put_made_files.Given as goal

-- the files so far, each with its line
abbrev pub invariant-files : goal.invariant-files
invariant-files l = Puts (map (made_file l.folder l.made) (take l.file-index l.file-items)) l.initial.outputs.items l.outputs.items
