use Rattle.std.proofs.Common.{◌≡◌, ◌++◌, map, take}
use Rattle.ucdshop_jobs.specs.Run.{made_held}
use Rattle.ucdshop_jobs.proofs.given.put_made_texts.Given as goal

-- the texts so far
abbrev pub invariant-files : goal.invariant-files
invariant-files l = l.held.items ≡ l.initial.held.items ++ map (made_held l.made) (take l.file-index l.file-items)
