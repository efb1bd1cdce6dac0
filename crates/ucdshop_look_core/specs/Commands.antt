-- What a command of the program asks for.
-- job_of command          the job that it stands for
-- AsksFor command form    the command is there exactly where the form is, and stands for its job
use Rattle.std.specs.Prelude.{◌≡◌, Option, Some, None}
use Rattle.ucdshop_jobs.specs.JobWords.{job_of as run_of}
use Rattle.ucdshop_look_core.specs.Jobs.{Job, Ask, Changes, Check, Show}
use Rattle.ucdshop_look_core.specs.Points.{points_in}
use Rattle.ucdshop_look_core.specs.declared.command.Command.{Command}
use Rattle.ucdshop_look_core.specs.declared.command.Command.TheVariants.{Ask as AskWords, Changes as ChangesWords, Check as CheckWords, Show as ShowWords}

abbrev pub job_of : Command → Job
job_of (AskWords folder questions) = Ask folder.now questions.now
job_of (ShowWords folder words) = Show folder.now (points_in words.now)
job_of (CheckWords run) = Check (run_of run)
job_of (ChangesWords run) = Changes (run_of run)

abbrev pub AsksFor : Option Command → Option Job → Type 0
AsksFor None form = form ≡ None
AsksFor (Some command) form = form ≡ Some (job_of command)
