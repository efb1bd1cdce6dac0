-- Carrying out the commands of a script on a bench.
-- session_on files carried    the session that stands so: these files, the log, the answers and the counts
-- question_command line text  the command that asks a question
-- session_of bench carried    the session that stands so: the files of the bench, the log, the answers and the counts
-- counted carried             how many commands are counted
use Rattle.std.specs.Prelude.{ℕ, ◌+◌, List}
use Rattle.release_rows.specs.Releases.{ReleaseItems, FileItem}
use Rattle.script_lines.specs.declared.command.Command.{Command}
use Rattle.script_lines.specs.declared.command.What.TheVariants.{Question}
use Rattle.ucdshop_jobs.specs.Session.{Session}
use Rattle.ucdshop_jobs.specs.declared.carried.Carried.{Carried}

abbrev pub session_on : List (List FileItem) → Carried → Session
session_on files carried = record {
  files = files;
  log = carried.log;
  sets = carried.sets;
  accepted = carried.accepted;
  changed = carried.changed;
  refused = carried.refused;
  answered = carried.answered;
}

abbrev pub session_of : ReleaseItems → Carried → Session
session_of bench carried = session_on bench.current carried

abbrev pub question_command : ℕ → List ℕ → Command
question_command line text = record { line = line; what = Question text }

abbrev pub counted : Carried → ℕ
counted carried = carried.accepted + carried.refused + carried.answered
