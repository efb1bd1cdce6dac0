-- What a command of the program asks for.
-- job_of command          the job that it stands for
-- AsksFor command form    the command is there exactly where the form is, and stands for its job
-- IsListed job            it is one that words ask for: of `ages` there are not more folders than may be, and of `undo` as many groups can be taken
--                         back as may be
use Rattle.std.specs.Prelude.{◌≡◌, ◌≤◌, length, Option, Some, None, ⊤}
use Rattle.ucdshop_more_core.specs.Run.{Job, Ages, Conform, Desk, Undo}
use Rattle.ucdshop_more_core.specs.declared.command.Command.{Command}
use Rattle.ucdshop_more_core.specs.declared.command.Command.TheVariants.{Ages as AgesWords, Conform as ConformWords, Desk as DeskWords, Undo as UndoWords}

abbrev pub job_of : Command → Job
job_of (DeskWords input events output) = Desk input.now events.now output.now
job_of (UndoWords input script output depth) = Undo input.now script.now output.now depth
job_of (ConformWords input tests output) = Conform input.now tests.now output.now
job_of (AgesWords output folders) = Ages output.now folders.now

abbrev pub AsksFor : Option Command → Option Job → Type 0
AsksFor None form = form ≡ None
AsksFor (Some command) form = form ≡ Some (job_of command)

abbrev pub IsListed : Job → Type 0
IsListed (Desk input events output) = ⊤
IsListed (Undo input script output depth) = (1 ≤ depth) × (depth ≤ 1024)
IsListed (Conform input tests output) = ⊤
IsListed (Ages output folders) = length folders ≤ 16
