-- What `changes` tells agrees with what `apply` does.
-- TotalsAreCounted           the spans of an accepted group have as many code points as its line of the log counts
-- StagesFollowTheSession     the commands behind others are carried out on the files that the session leaves of these
use Rattle.std.specs.Prelude.{◌≡◌, List, ◌++◌}
use Rattle.release_rows.specs.FileItems.{FileItem}
use Rattle.script_lines.specs.declared.command.Command.{Command}
use Rattle.edit_session.specs.Groups.{changed, files_facts}
use Rattle.set_answers.specs.SetTexts.{members_in}
use Rattle.ucdshop_jobs.specs.Session.{changed_count, session}
use Rattle.ucdshop_look_core.specs.Changes.{stages}
use Rattle.ucdshop_look_core.specs.PointSpans.{point_spans}

abbrev pub TotalsAreCounted : Type 0
TotalsAreCounted = (old new : List (List FileItem)) → members_in (point_spans (changed (files_facts old) (files_facts new))) ≡ changed_count old new

abbrev pub StagesFollowTheSession : Type 0
StagesFollowTheSession = (files : List (List FileItem)) (front behind : List Command) → stages files (front ++ behind) ≡ stages files front ++ stages (session files front).files behind
