-- Answering the questions at the front of commands.
-- AnswersFront files from count commands carried rest   the questions at the front of the commands are answered on these files, and
--                             the rest is left: the session that then stands, and the rest, give what the session `from` and all
--                             the commands give, and may raise the counter of steps as far; where `count` were counted before,
--                             each is counted; the rest is ready
use Rattle.std.specs.Prelude.{◌≡◌, ◌≤◌, ℕ, ◌+◌, List, fold, length, All}
use Rattle.release_rows.specs.FileItems.{FileItem}
use Rattle.script_lines.specs.Groups.{IsWellFormed}
use Rattle.script_lines.specs.declared.command.Command.{Command}
use Rattle.ucdshop_jobs.specs.Carrying.{counted, session_on}
use Rattle.ucdshop_jobs.specs.Counting.{SessionCounts}
use Rattle.ucdshop_jobs.specs.Session.{Session, step}
use Rattle.ucdshop_jobs.specs.declared.carried.Carried.{Carried}

pub record AnswersFront (files : List (List FileItem)) (from : Session) (count : ℕ) (commands : List Command) (carried : Carried) (rest : List Command) : Type 0 where
  pub session : fold step (session_on files carried) rest ≡ fold step from commands
  pub counts : (old new : ℕ) → SessionCounts (session_on files carried) rest old new → SessionCounts from commands old new
  pub counted : counted carried + length rest ≡ count + length commands
  pub left : length rest ≤ length commands
  pub ready : All IsWellFormed rest
