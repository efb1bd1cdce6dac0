use Rattle.std.proofs.Common.{[], take, flat_map}
use Rattle.run_endings.specs.Planning.{Puts}
use Rattle.ucdshop_jobs.specs.Carrying.{session_of}
use Rattle.ucdshop_jobs.specs.JobWords.{job_of}
use Rattle.ucdshop_jobs.specs.Run.{part_files}
use Rattle.ucdshop_core.proofs.outputs.outputs_of.Given as goal

-- the parts so far, each file with its line
abbrev pub invariant-parts : goal.invariant-parts
invariant-parts l = Puts (flat_map (part_files (job_of l.job) (session_of l.work.bench.now l.work.carried.now) l.work.breaks.now) (take l.part-index l.part-items)) [] l.outputs.items
