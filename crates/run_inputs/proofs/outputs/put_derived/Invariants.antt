use Rattle.std.proofs.Common.{take, map}
use Rattle.run_endings.specs.Planning.{Puts}
use Rattle.run_inputs.specs.Files.{derived_file}
use Rattle.run_inputs.proofs.outputs.put_derived.Given as goal

-- the files so far, each with its line
abbrev pub invariant-files : goal.invariant-files
invariant-files l = Puts (map (derived_file l.folder l.bench.current) (take l.file-index l.file-items)) l.initial.outputs.items l.outputs.items
