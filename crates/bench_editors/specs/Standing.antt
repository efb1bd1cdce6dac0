-- Which states a desk stands for.
-- desk_bench desk         the release of its bench
-- desk_revision desk      the last revision
-- desk_has desk editor    the editor is present
-- desk_last desk row      the last revision that touched the row; 0 if none did
-- StandsFor desk s        the bench has the files, the editors are those, the revision is the number of groups, and each row has
--                         the number of the last group that touches it
-- IsAsBefore old new      nothing that a desk shows is another
-- StopsWithin s events desk old new   some of the events were handled, from the first on, and the desk stands for the state that
--                         they leave; the counter rose as they and the next one may raise it
-- TakesUp ops files old new   an accepted group: the bench has these files, the revision is one more, and it is that of the rows
--                         that the group touches
-- GroupAnswered result expected ops old new   what a group is answered that comes to its operations, and what it leaves, by what
--                         its operations give on the rows
use Rattle.std.specs.Prelude.{◌≡◌, ℕ, ◌+◌, Bool, List, take, Result, Ok, Err, if◌then◌else◌}
use Rattle.std.specs.BTreeSet.{contains}
use Rattle.std.specs.Ordering.{nat_cmp}
use Rattle.ucd_points.specs.declared.memory.Memory.{Memory}
use Rattle.release_rows.specs.Releases.{ReleaseItems, FileItem}
use Rattle.release_rows.specs.declared.operation.Op.{Op}
use Rattle.edit_session.specs.Groups.{changed, files_facts}
use Rattle.edit_session.specs.declared.apply_stop.Refused.{Refused as Why}
use Rattle.bench_editors.specs.Rows.{Touched, last_touched, touches}
use Rattle.bench_editors.specs.RowKeys.{last_in, row_parts}
use Rattle.bench_editors.specs.Desks.{DeskState, EventsCount, after_events, is_present, revision_of}
use Rattle.bench_editors.specs.declared.desk.Desk.{Desk}
use Rattle.bench_editors.specs.declared.event.Event.{Event}
use Rattle.bench_editors.specs.declared.reply.Reply.{Reply}
use Rattle.bench_editors.specs.declared.reply.Reply.TheVariants.{Accepted, Refused}

abbrev pub desk_bench : Desk → ReleaseItems
desk_bench desk = desk.bench

abbrev pub desk_revision : Desk → ℕ
desk_revision desk = desk.revision

abbrev pub desk_has : Desk → ℕ → Bool
desk_has desk editor = contains nat_cmp desk.editors editor

abbrev pub desk_last : Desk → Touched → ℕ
desk_last desk row = last_in desk.rows (row_parts row)

pub record StandsFor (desk : Desk) (s : DeskState) : Type 0 where
  pub files : (desk_bench desk).current ≡ s.files
  pub editors : (editor : ℕ) → desk_has desk editor ≡ is_present s editor
  pub revision : desk_revision desk ≡ revision_of s
  pub touched : (row : Touched) → desk_last desk row ≡ last_touched s.groups row

pub record IsAsBefore (old new : Desk) : Type 0 where
  pub bench : desk_bench new ≡ desk_bench old
  pub editors : (editor : ℕ) → desk_has new editor ≡ desk_has old editor
  pub revision : desk_revision new ≡ desk_revision old
  pub touched : (row : Touched) → desk_last new row ≡ desk_last old row

pub record StopsWithin (s : DeskState) (events : List Event) (desk : Desk) (old new : ℕ) : Type 0 where
  pub handled : ℕ
  pub state : StandsFor desk (after_events s (take handled events))
  pub counted : EventsCount s (take (handled + 1) events) old new

-- ---- a group that comes to its operations

pub record TakesUp (ops : List Op) (files : List (List FileItem)) (old new : Desk) : Type 0 where
  pub bench : desk_bench new ≡ record { current = files; prepared = files }
  pub editors : (editor : ℕ) → desk_has new editor ≡ desk_has old editor
  pub revision : desk_revision new ≡ desk_revision old + 1
  pub touched : (row : Touched) → desk_last new row ≡ (if touches row ops then desk_revision old + 1 else desk_last old row)

abbrev pub GroupAnswered : Result Reply Memory → Result (List (List FileItem)) Why → List Op → Desk → Desk → Type 0
GroupAnswered (Ok reply) (Ok files) ops old new = (reply ≡ Accepted (desk_revision old + 1) (changed (files_facts (desk_bench old).current) (files_facts files))) × TakesUp ops files old new
GroupAnswered (Ok reply) (Err why) ops old new = (reply ≡ Refused why) × IsAsBefore old new
GroupAnswered (Err memory) expected ops old new = IsAsBefore old new
