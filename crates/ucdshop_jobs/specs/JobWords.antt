-- What the words of a run ask for, as the code has it.
-- path_at place           the path of a place: as it is named, or of a name below a folder
-- job_of job              the job that stands there
-- AsksFor job form        the job is there exactly where the form is, and stands for it
-- IsListed job            a release is made of a number from 1 to 50, if at all
use Rattle.std.specs.Prelude.{◌≡◌, ℕ, List, Option, Some, None, option_map}
use Rattle.run_endings.specs.Paths.{path_in}
use Rattle.ucdshop_jobs.specs.Jobs.{Job}
use Rattle.ucdshop_jobs.specs.Making.{IsInRange}
use Rattle.ucdshop_jobs.specs.declared.job.Job.{Job as JobWords}
use Rattle.ucdshop_jobs.specs.declared.job.ScriptPlace.{ScriptPlace}
use Rattle.ucdshop_jobs.specs.declared.job.ScriptPlace.TheVariants.{Named, Below}

abbrev pub path_at : ScriptPlace → List ℕ
path_at (Named path) = path.now
path_at (Below folder name) = path_in folder.now name.now

abbrev pub job_of : JobWords → Job
job_of job = record {
  made = job.made;
  folder = job.folder.now;
  script = option_map path_at job.script;
  previous = option_map (λ folder. folder.now) job.previous;
  output = job.output.now;
  parts = job.parts.now;
}

abbrev pub AsksFor : Option JobWords → Option Job → Type 0
AsksFor None form = form ≡ None
AsksFor (Some job) form = form ≡ Some (job_of job)

abbrev pub IsListed : Job → Type 0
IsListed job = IsInRange job.made
