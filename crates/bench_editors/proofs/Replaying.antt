-- The groups that a desk accepted, and its replies, without the desk.
use Rattle.std.proofs.Common.{◌≡◌, ℕ, ◌==◌, Bool, true, false, nat_lt, List, [], ◌∷◌, ◌++◌, length, Option, Some, None, Result, Ok, Err, refl, sym, ap, ◌∙◌, if◌then◌else◌, append_assoc, arith, append-nil, eq-eqb}
use Rattle.std.specs.List.{position, position_or_len}
use Rattle.std.proofs.lemmas.Bool.Decides.{nat_tests}
use Rattle.release_rows.specs.FileItems.{FileItem}
use Rattle.release_rows.specs.declared.operation.Op.{Op}
use Rattle.edit_session.specs.Groups.{group_answer}
use Rattle.edit_session.specs.declared.apply_stop.Refused.{Refused as Why}
use Rattle.bench_editors.specs.Desks.{Answer, DeskState, after_events, answer, carried, early_reply, entered, is_present, is_stale, left, proposed, replies, revision_of, stale_at, without}
use Rattle.bench_editors.specs.Laws.{AcceptsEach, GroupsReplay, RepliesAreThoseOfALoneEditor, Replays, accepted_points, alone, is_early, without_revision}
use Rattle.bench_editors.specs.declared.event.Event.{Event}
use Rattle.bench_editors.specs.declared.event.Event.TheVariants.{Enter, Propose, Leave}
use Rattle.bench_editors.specs.declared.reply.Reply.{Reply}
use Rattle.bench_editors.specs.declared.reply.Reply.TheVariants.{Absent, Ahead}
use Rattle.bench_editors.proofs.GroupLemmas.{none_before}

-- ---- a reply that comes before the operations

record IsEarly (reply : Reply) : Type 0 where
  early : is_early reply ≡ true
  points : (more : List Reply) → accepted_points (reply ∷ more) ≡ accepted_points more

abbrev AllEarly : Option Reply → Type 0
AllEarly None = Unit {0}
AllEarly (Some reply) = IsEarly reply

early_by : (s : DeskState) (ops : List Op) (present ahead : Bool) (first : Option ℕ)
    → AllEarly (if present then (if ahead then Some (Ahead (revision_of s)) else stale_at s.groups ops first) else Some Absent)
early_by s ops true true first = record { early = refl; points = λ more. refl }
early_by s ops true false None = tt
early_by s ops true false (Some at) = record { early = refl; points = λ more. refl }
early_by s ops false ahead first = record { early = refl; points = λ more. refl }

early_is : (s : DeskState) (editor base : ℕ) (ops : List Op) → AllEarly (early_reply s editor base ops)
early_is s editor base ops = early_by s ops (is_present s editor) (nat_lt (revision_of s) base) (position (is_stale s.groups base) ops)

-- ---- what events append

-- what Replays says of a state and an event, by the answer to the event
record Goes (s : DeskState) (a : Answer) (events : List Event) : Type 0 where
  groups : List (List Op)
  appended : (after_events a.state events).groups ≡ s.groups ++ groups
  accepted : AcceptsEach s.files groups (accepted_points (a.reply ∷ replies a.state events)) (after_events a.state events).files

-- an editor comes or leaves, or a reply leaves the state
stays : (s : DeskState) (editors : List ℕ) (reply : Reply) (events : List Event) → ((more : List Reply) → accepted_points (reply ∷ more) ≡ accepted_points more)
    → Replays (record { files = s.files; editors = editors; groups = s.groups }) events → Goes s (record { reply = reply; state = record { files = s.files; editors = editors; groups = s.groups } }) events
stays s editors reply events points r = record { groups = r.groups; appended = r.appended; accepted = rw (points (replies (record { files = s.files; editors = editors; groups = s.groups }) events)) r.accepted }

goes_carried : (s : DeskState) (ops : List Op) (events : List Event) (result : Result (List (List FileItem)) Why) → group_answer s.files ops ≡ result
    → Replays (carried s ops result).state events → Goes s (carried s ops result) events
goes_carried s ops events (Ok files) is r = record {
  groups = ops ∷ r.groups;
  appended = r.appended ∙ append_assoc s.groups (ops ∷ []) r.groups;
  accepted = (files, is, refl, r.accepted);
}
goes_carried s ops events (Err why) is r = stays s s.editors _ events (λ more. refl) r

goes_proposed : (s : DeskState) (ops : List Op) (events : List Event) (early : Option Reply) → AllEarly early → Replays (proposed s ops early).state events → Goes s (proposed s ops early) events
goes_proposed s ops events (Some reply) is r = stays s s.editors reply events is.points r
goes_proposed s ops events None is r = goes_carried s ops events (group_answer s.files ops) refl r

goes_entered : (s : DeskState) (editor : ℕ) (events : List Event) (present : Bool) → Replays (entered s editor present).state events → Goes s (entered s editor present) events
goes_entered s editor events true r = stays s s.editors _ events (λ more. refl) r
goes_entered s editor events false r = stays s (editor ∷ s.editors) _ events (λ more. refl) r

goes_left : (s : DeskState) (editor : ℕ) (events : List Event) (present : Bool) → Replays (left s editor present).state events → Goes s (left s editor present) events
goes_left s editor events true r = stays s (without editor s.editors) _ events (λ more. refl) r
goes_left s editor events false r = stays s s.editors _ events (λ more. refl) r

goes : (s : DeskState) (event : Event) (events : List Event) → Replays (answer s event).state events → Goes s (answer s event) events
goes s (Enter editor) events r = goes_entered s editor events (is_present s editor) r
goes s (Leave editor) events r = goes_left s editor events (is_present s editor) r
goes s (Propose editor base ops) events r = goes_proposed s ops events (early_reply s editor base ops) (early_is s editor base ops) r

pub groups_replay : GroupsReplay
groups_replay s [] = record { groups = []; appended = sym (append-nil s.groups); accepted = refl }
groups_replay s (event ∷ events) =
    let g = goes s event events (groups_replay (answer s event).state events) in
    record { groups = g.groups; appended = g.appended; accepted = g.accepted }

-- ---- an editor alone

not_below : (n : ℕ) → nat_lt n n ≡ false
not_below n = grind (arith, nat_tests)

none_stale : (ops : List Op) → position (is_stale [] 0) ops ≡ None
none_stale ops =
    let all : position_or_len (is_stale [] 0) ops ≡ length ops = none_before ops in
    rw (all, not_below (length ops)) refl

never_early : (files : List (List FileItem)) (editor : ℕ) (ops : List Op) → early_reply (alone files editor) editor 0 ops ≡ None
never_early files editor ops = rw (eq-eqb editor editor refl, none_stale ops) refl

same_alone : (s : DeskState) (editor : ℕ) (ops : List Op) (result : Result (List (List FileItem)) Why)
    → without_revision (carried s ops result).reply ≡ without_revision (carried (alone s.files editor) ops result).reply
same_alone s editor ops (Ok files) = refl
same_alone s editor ops (Err why) = refl

lone_by : (s : DeskState) (editor : ℕ) (ops : List Op) (early : Option Reply) → AllEarly early → is_early (proposed s ops early).reply ≡ false
    → without_revision (proposed s ops early).reply ≡ without_revision (proposed (alone s.files editor) ops None).reply
lone_by s editor ops (Some reply) is late = absurd (let e = is.early in cc)
lone_by s editor ops None is late = same_alone s editor ops (group_answer s.files ops)

pub replies_are_those_of_a_lone_editor : RepliesAreThoseOfALoneEditor
replies_are_those_of_a_lone_editor s editor base ops late =
    lone_by s editor ops (early_reply s editor base ops) (early_is s editor base ops) late
    ∙ ap (λ (early : Option Reply). without_revision (proposed (alone s.files editor) ops early).reply) (sym (never_early s.files editor ops))
