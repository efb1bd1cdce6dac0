-- What can be said of the groups that a desk accepted, and of its replies, without the desk.
-- accepted_points replies   the code points of the replies Accepted, in order
-- AcceptsEach files groups points end   the groups, applied to the files one after the other, are each accepted, change the records of
--                           just these code points, and end in the other files
-- Replays s events          the groups that the events append are such, from the files of the state on
-- GroupsReplay              so they are of every state and all events
-- is_early reply            the reply is Absent, Ahead or Stale
-- without_revision reply    the reply, with revision 0 where it is Accepted
-- alone files editor        the state of one editor at a new desk
-- RepliesAreThoseOfALoneEditor     a reply to a proposal that is neither Absent nor Ahead nor Stale is, its revision aside, the one that a
--                           lone editor gets on the rows at that point
use Rattle.std.specs.Prelude.{◌≡◌, ℕ, Bool, true, false, List, [], ◌∷◌, ◌++◌, Ok}
use Rattle.release_rows.specs.FileItems.{FileItem}
use Rattle.release_rows.specs.declared.operation.Op.{Op}
use Rattle.edit_session.specs.Groups.{changed, files_facts, group_answer}
use Rattle.bench_editors.specs.Desks.{DeskState, after_events, answer, replies}
use Rattle.bench_editors.specs.declared.event.Event.{Event}
use Rattle.bench_editors.specs.declared.event.Event.TheVariants.{Propose}
use Rattle.bench_editors.specs.declared.reply.Reply.{Reply}
use Rattle.bench_editors.specs.declared.reply.Reply.TheVariants.{Entered, Accepted, Left, Present, Absent, Ahead, Stale, Refused}

-- ---- whoever replays the accepted groups

abbrev points_then : Reply → List (List ℕ) → List (List ℕ)
points_then (Accepted revision points) more = points ∷ more
points_then (Entered revision) more = more
points_then Left more = more
points_then Present more = more
points_then Absent more = more
points_then (Ahead revision) more = more
points_then (Stale revision op) more = more
points_then (Refused why) more = more

abbrev pub accepted_points : List Reply → List (List ℕ)
accepted_points [] = []
accepted_points (reply ∷ more) = points_then reply (accepted_points more)

abbrev pub AcceptsEach : List (List FileItem) → List (List Op) → List (List ℕ) → List (List FileItem) → Type 0
AcceptsEach files [] [] end = end ≡ files
AcceptsEach files [] (points ∷ more) end = ⊥
AcceptsEach files (ops ∷ groups) [] end = ⊥
AcceptsEach files (ops ∷ groups) (points ∷ more) end =
    (next : List (List FileItem)) × (group_answer files ops ≡ Ok next) × (points ≡ changed (files_facts files) (files_facts next)) × AcceptsEach next groups more end

pub record Replays (s : DeskState) (events : List Event) : Type 0 where
  pub groups : List (List Op)
  pub appended : (after_events s events).groups ≡ s.groups ++ groups
  pub accepted : AcceptsEach s.files groups (accepted_points (replies s events)) (after_events s events).files

abbrev pub GroupsReplay : Type 0
GroupsReplay = (s : DeskState) (events : List Event) → Replays s events

-- ---- an editor alone

abbrev pub is_early : Reply → Bool
is_early Absent = true
is_early (Ahead revision) = true
is_early (Stale revision op) = true
is_early (Entered revision) = false
is_early (Accepted revision points) = false
is_early Left = false
is_early Present = false
is_early (Refused why) = false

abbrev pub without_revision : Reply → Reply
without_revision (Accepted revision points) = Accepted 0 points
without_revision (Entered revision) = Entered revision
without_revision Left = Left
without_revision Present = Present
without_revision Absent = Absent
without_revision (Ahead revision) = Ahead revision
without_revision (Stale revision op) = Stale revision op
without_revision (Refused why) = Refused why

abbrev pub alone : List (List FileItem) → ℕ → DeskState
alone files editor = record { files = files; editors = editor ∷ []; groups = [] }

abbrev pub RepliesAreThoseOfALoneEditor : Type 0
RepliesAreThoseOfALoneEditor = (s : DeskState) (editor base : ℕ) (ops : List Op) → is_early (answer s (Propose editor base ops)).reply ≡ false
    → without_revision (answer s (Propose editor base ops)).reply ≡ without_revision (answer (alone s.files editor) (Propose editor 0 ops)).reply
