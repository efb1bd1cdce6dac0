use Rattle.std.proofs.Common.{◌≡◌, ◌++◌, map, take}
use Rattle.run_inputs.specs.Paths.{source_in}
use Rattle.run_inputs.proofs.paths.put_source_paths.Given as goal

-- the paths so far
abbrev pub invariant-files : goal.invariant-files
invariant-files l = l.into ≡ l.initial.into ++ map (source_in l.folder) (take l.file-index l.file-items)
