-- The log that is kept at a desk.
-- LogsAll s turns log desk   the log has the replies that the turns get from this state on, and the count of those that the summary
--                          counts; and the desk stands for the state that the turns leave
use Rattle.std.specs.Prelude.{◌≡◌, List, count_by}
use Rattle.bench_editors.specs.Desks.{DeskState, after_events, replies}
use Rattle.bench_editors.specs.Standing.{StandsFor}
use Rattle.bench_editors.specs.declared.desk.Desk.{Desk}
use Rattle.ucdshop_more_core.specs.DeskTexts.{desk_log, is_accepted, is_turned_away}
use Rattle.ucdshop_more_core.specs.Run.{events_of, lines_of}
use Rattle.ucdshop_more_core.specs.Turns.{Turn}
use Rattle.ucdshop_more_core.specs.declared.desk_log.DeskLog.{DeskLog}

pub record LogsAll (s : DeskState) (turns : List Turn) (log : DeskLog) (desk : Desk) : Type 0 where
  pub text : log.text ≡ desk_log (lines_of turns) (replies s (events_of turns))
  pub accepted : log.accepted ≡ count_by is_accepted (replies s (events_of turns))
  pub refused : log.refused ≡ count_by is_turned_away (replies s (events_of turns))
  pub state : StandsFor desk (after_events s (events_of turns))
