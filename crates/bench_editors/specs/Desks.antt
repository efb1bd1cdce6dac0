-- A desk: the rows, the editors who are present, and the groups that were accepted. What it answers to an event, and what
-- it is afterwards.
-- DeskState                 the files, the editors present, and the accepted groups in order
-- revision_of s             how many groups were accepted
-- is_present s editor       the editor is present
-- started files             the state with no editor and no group
-- without editor editors    the other editors
-- is_stale groups base op   a group with a number greater than base touches the row of the operation: the last one that does
-- stale_at groups ops first   what a proposal is told whose first stale operation has this place, from 0: the number of the last
--                           group that touches the row of any of its operations, and that operation, counted from 1
-- stale_reply groups base ops   what it is told if one of its operations is stale
-- early_reply s editor base ops   the reply to a proposal that does not come to its operations: Absent if the editor is not
--                           present, Ahead if base is greater than the revision, then Stale; None if it comes to them
-- Answer                    a reply, and the state that it leaves
-- with_group s ops files    the state with these files, and with one more group
-- carried s ops answer      the answer to a group by what its operations give on the rows: an accepted group is one more, and a
--                           refused one leaves the state
-- proposed s ops early      the early reply, which leaves the state; else what the group is answered on the rows
-- entered s editor present, left s editor present   the answers to an editor who comes or leaves
-- answer s event            the answer to an event
-- replies s events          the replies to events, one after the other
-- after_events s events     the state that they leave
-- IsEvent event             the operations of a proposal can be operations, and are no more than a group may have
-- GroupCounts s ops early old new   the counter rises by at most the number of code points that depend on the change, and not if
--                           an operation is refused; nor if the reply is an early one
-- EventCounts s event old new   so does the counter at an event: a proposal raises it so, and no other event does
-- EventsCount s events old new   so does each of the events, in order, on the state as it is then
use Rattle.std.specs.Prelude.{◌≡◌, ◌≤◌, ℕ, ◌+◌, Bool, not, ◌==◌, nat_lt, List, [], ◌∷◌, ◌++◌, length, filter, Option, Some, None, Result, Ok, Err, if◌then◌else◌}
use Rattle.std.specs.List.{All, list_any, fold, position}
use Rattle.release_rows.specs.FileItems.{FileItem}
use Rattle.release_rows.specs.Operations.{IsOp}
use Rattle.release_rows.specs.declared.operation.Op.{Op}
use Rattle.edit_session.specs.Groups.{CountsAs, after_ops, changed, files_facts, group_answer, group_limit}
use Rattle.edit_session.specs.declared.apply_stop.Refused.{Refused as Why}
use Rattle.bench_editors.specs.Rows.{last_passing, last_touched, row_of, touches_any}
use Rattle.bench_editors.specs.declared.event.Event.{Event}
use Rattle.bench_editors.specs.declared.event.Event.TheVariants.{Enter, Propose, Leave}
use Rattle.bench_editors.specs.declared.reply.Reply.{Reply}
use Rattle.bench_editors.specs.declared.reply.Reply.TheVariants.{Entered, Accepted, Left, Present, Absent, Ahead, Stale, Refused}

pub record DeskState : Type 0 where
  pub files : List (List FileItem)
  pub editors : List ℕ
  pub groups : List (List Op)

abbrev pub revision_of : DeskState → ℕ
revision_of s = length s.groups

abbrev pub is_present : DeskState → ℕ → Bool
is_present s editor = list_any (λ e. e == editor) s.editors

abbrev pub started : List (List FileItem) → DeskState
started files = record { files = files; editors = []; groups = [] }

abbrev pub without : ℕ → List ℕ → List ℕ
without editor editors = filter (λ e. not (e == editor)) editors

-- ---- a proposal

abbrev pub is_stale : List (List Op) → ℕ → Op → Bool
is_stale groups base op = nat_lt base (last_touched groups (row_of op))

abbrev pub stale_at : List (List Op) → List Op → Option ℕ → Option Reply
stale_at groups ops None = None
stale_at groups ops (Some first) = Some (Stale (last_passing (touches_any ops) groups) (first + 1))

abbrev pub stale_reply : List (List Op) → ℕ → List Op → Option Reply
stale_reply groups base ops = stale_at groups ops (position (is_stale groups base) ops)

abbrev pub early_reply : DeskState → ℕ → ℕ → List Op → Option Reply
early_reply s editor base ops =
    if is_present s editor
    then (if nat_lt (revision_of s) base then Some (Ahead (revision_of s)) else stale_reply s.groups base ops)
    else Some Absent

pub record Answer : Type 0 where
  pub reply : Reply
  pub state : DeskState

abbrev pub with_group : DeskState → List Op → List (List FileItem) → DeskState
with_group s ops files = record { files = files; editors = s.editors; groups = s.groups ++ ops ∷ [] }

abbrev pub carried : DeskState → List Op → Result (List (List FileItem)) Why → Answer
carried s ops (Ok files) = record { reply = Accepted (revision_of s + 1) (changed (files_facts s.files) (files_facts files)); state = with_group s ops files }
carried s ops (Err why) = record { reply = Refused why; state = s }

abbrev pub proposed : DeskState → List Op → Option Reply → Answer
proposed s ops (Some early) = record { reply = early; state = s }
proposed s ops None = carried s ops (group_answer s.files ops)

-- ---- an event, and events

abbrev pub entered : DeskState → ℕ → Bool → Answer
entered s editor present =
    if present
    then record { reply = Present; state = s }
    else record { reply = Entered (revision_of s); state = record { files = s.files; editors = editor ∷ s.editors; groups = s.groups } }

abbrev pub left : DeskState → ℕ → Bool → Answer
left s editor present =
    if present
    then record { reply = Left; state = record { files = s.files; editors = without editor s.editors; groups = s.groups } }
    else record { reply = Absent; state = s }

abbrev pub answer : DeskState → Event → Answer
answer s (Enter editor) = entered s editor (is_present s editor)
answer s (Leave editor) = left s editor (is_present s editor)
answer s (Propose editor base ops) = proposed s ops (early_reply s editor base ops)

abbrev pub replies : DeskState → List Event → List Reply
replies s [] = []
replies s (event ∷ events) = (answer s event).reply ∷ replies (answer s event).state events

abbrev pub after_events : DeskState → List Event → DeskState
after_events s events = fold (λ state event. (answer state event).state) s events

-- ---- what an event needs, and what it counts

abbrev pub IsEvent : Event → Type 0
IsEvent (Propose editor base ops) = All IsOp ops × (length ops ≤ group_limit)
IsEvent (Enter editor) = Unit {0}
IsEvent (Leave editor) = Unit {0}

abbrev pub GroupCounts : DeskState → List Op → Option Reply → ℕ → ℕ → Type 0
GroupCounts s ops (Some early) old new = new ≡ old
GroupCounts s ops None old new = CountsAs (after_ops s.files 0 ops) (files_facts s.files) old new

abbrev pub EventCounts : DeskState → Event → ℕ → ℕ → Type 0
EventCounts s (Propose editor base ops) old new = GroupCounts s ops (early_reply s editor base ops) old new
EventCounts s (Enter editor) old new = new ≡ old
EventCounts s (Leave editor) old new = new ≡ old

unfoldable pub EventsCount : DeskState → List Event → ℕ → ℕ → Type 0
EventsCount s [] old new = new ≡ old
EventsCount s (event ∷ events) old new = (between : ℕ) × EventCounts s event old between × EventsCount (answer s event).state events between new
