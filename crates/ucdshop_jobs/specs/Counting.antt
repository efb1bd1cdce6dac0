-- How far a run raises its counter of steps. A step is the derivation of one code point.
-- CommandCounts files what old new   a group raises the counter by at most the number of code points that depend on it, and not where
--                              an operation is refused; a question leaves it
-- SessionCounts s commands old new   so does each of the commands, in order, on the files as they are then
-- releases_of previous         how many releases a job names: one more with an earlier one
-- opened_limit job             the number of code points, for each of these releases
-- VerdictCounts job verdict old new   the counter rises by at most that limit; and, where what is judged is not refused, further by
--                              what the session of the commands may raise it
-- FormOpens form old new       the counter rises by at most that limit; it stays where the words have no listed form
-- StatusCounts status form old new   so it does with LoadRefused; with ReadFault it stays; of the other statuses nothing is said
-- StopCounts answer form old new   the same of what is left to be done, or of why the run stops before it writes
-- PlannedCounts planned form old new   the same of what was planned; nothing is said where the words have no listed form
-- FormCounts form seen old new   the same of what the words ask for, by what was seen; the counter stays where they have no listed form
-- StepsWithoutScript job old new          where no script is carried out, the counter rises by at most that limit; else nothing is said
-- FormStepsWithoutScript form old new     the same of what the words ask for; the counter stays where they have no listed form
use Rattle.std.specs.Prelude.{◌≡◌, ◌≤◌, ℕ, ◌+◌, ◌*◌, List, [], ◌∷◌, Option, Some, None, Result, Ok, Err, ⊤}
use Rattle.ucd_points.specs.Limits.{point_count}
use Rattle.release_rows.specs.FileItems.{FileItem}
use Rattle.script_lines.specs.declared.command.Command.{Command}
use Rattle.script_lines.specs.declared.command.What.{What}
use Rattle.script_lines.specs.declared.command.What.TheVariants.{Group, Question}
use Rattle.edit_session.specs.Groups.{CountsAs, after_ops, files_facts}
use Rattle.ucdshop_jobs.specs.Jobs.{Job}
use Rattle.ucdshop_jobs.specs.Run.{Inputs, job_verdict}
use Rattle.run_endings.specs.Endings.{Seen}
use Rattle.run_endings.specs.declared.plan.Plan.{Plan}
use Rattle.run_endings.specs.declared.status.Status.{Status}
use Rattle.run_endings.specs.declared.status.Status.TheVariants.{LoadRefused, ReadFault}
use Rattle.run_endings.specs.declared.stop.Stop.{Stop}
use Rattle.run_endings.specs.declared.stop.Stop.TheVariants.{Refused, ReadFailed, Memory}
use Rattle.ucdshop_jobs.specs.Session.{Session, started, step}

abbrev pub CommandCounts : List (List FileItem) → What → ℕ → ℕ → Type 0
CommandCounts files (Group ops) old new = CountsAs (after_ops files 0 ops) (files_facts files) old new
CommandCounts files (Question text) old new = new ≡ old

unfoldable pub SessionCounts : Session → List Command → ℕ → ℕ → Type 0
SessionCounts s [] old new = new ≡ old
SessionCounts s (command ∷ rest) old new = (between : ℕ) × CommandCounts s.files command.what old between × SessionCounts (step s command) rest between new

abbrev pub releases_of : Option (List ℕ) → ℕ
releases_of None = 1
releases_of (Some previous) = 2

abbrev pub opened_limit : Job → ℕ
opened_limit job = releases_of job.previous * point_count

abbrev pub VerdictCounts : Job → Result Inputs (List ℕ) → ℕ → ℕ → Type 0
VerdictCounts job (Ok inputs) old new = (opened : ℕ) × (opened ≤ old + opened_limit job) × SessionCounts (started inputs.files) inputs.commands opened new
VerdictCounts job (Err line) old new = new ≤ old + opened_limit job

abbrev pub FormOpens : Option Job → ℕ → ℕ → Type 0
FormOpens None old new = new ≡ old
FormOpens (Some job) old new = new ≤ old + opened_limit job

abbrev pub StatusCounts : Status → Option Job → ℕ → ℕ → Type 0
StatusCounts LoadRefused form old new = FormOpens form old new
StatusCounts ReadFault form old new = new ≡ old
StatusCounts _ form old new = ⊤

abbrev pub StopCounts : Result Plan Stop → Option Job → ℕ → ℕ → Type 0
StopCounts (Ok plan) form old new = ⊤
StopCounts (Err (Refused line)) form old new = FormOpens form old new
StopCounts (Err (ReadFailed line)) form old new = new ≡ old
StopCounts (Err Memory) form old new = ⊤

abbrev pub PlannedCounts : Option (Result Plan Stop) → Option Job → ℕ → ℕ → Type 0
PlannedCounts None form old new = ⊤
PlannedCounts (Some answer) form old new = StopCounts answer form old new

abbrev pub FormCounts : Option Job → Seen → ℕ → ℕ → Type 0
FormCounts None seen old new = new ≡ old
FormCounts (Some job) seen old new = VerdictCounts job (job_verdict job seen) old new

abbrev pub StepsWithoutScript : Job → ℕ → ℕ → Type 0
StepsWithoutScript job old new = job.script ≡ None → new ≤ old + opened_limit job

abbrev pub FormStepsWithoutScript : Option Job → ℕ → ℕ → Type 0
FormStepsWithoutScript None old new = new ≡ old
FormStepsWithoutScript (Some job) old new = StepsWithoutScript job old new
