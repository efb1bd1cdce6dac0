-- Events, one after the other.
use Rattle.std.proofs.Common.{◌≡◌, ℕ, ◌+◌, ◌<◌, List, [], ◌∷◌, ◌++◌, get_or, length, take, Option, Some, None, Result, Ok, Err, OnErr, refl, sym, ap, subst, ◌∙◌}
use Rattle.std.proofs.lemmas.List.{take_more}
use Rattle.release_rows.specs.declared.operation.Op.{Op}
use Rattle.edit_session.specs.CountProofs.{counts_none}
use Rattle.edit_session.specs.Groups.{after_ops, files_facts}
use Rattle.bench_editors.specs.Desks.{DeskState, EventCounts, EventsCount, GroupCounts, after_events, answer, early_reply, replies}
use Rattle.bench_editors.specs.Standing.{IsAsBefore, StandsFor, StopsWithin}
use Rattle.bench_editors.specs.declared.desk.Desk.{Desk}
use Rattle.bench_editors.specs.declared.event.Event.{Event}
use Rattle.bench_editors.specs.declared.event.Event.TheVariants.{Enter, Propose, Leave}
use Rattle.bench_editors.specs.declared.reply.Reply.{Reply}
use Rattle.bench_editors.proofs.DeskLemmas.{stands_as_before}

-- ---- one event more

after_push : (s : DeskState) (events : List Event) (event : Event) → after_events s (events ++ event ∷ []) ≡ (answer (after_events s events) event).state
after_push s [] event = refl
after_push s (first ∷ events) event = after_push (answer s first).state events event

replies_push : (s : DeskState) (events : List Event) (event : Event) → replies s (events ++ event ∷ []) ≡ replies s events ++ (answer (after_events s events) event).reply ∷ []
replies_push s [] event = refl
replies_push s (first ∷ events) event = ap (λ (rs : List Reply). (answer s first).reply ∷ rs) (replies_push (answer s first).state events event)

counts_push : (s : DeskState) (events : List Event) (event : Event) (a b c : ℕ) → EventsCount s events a b → EventCounts (after_events s events) event b c → EventsCount s (events ++ event ∷ []) a c
unfolding EventsCount
counts_push s [] event a b c h k = (c, subst (λ (n : ℕ). EventCounts s event n c) h k, refl)
counts_push s (first ∷ events) event a b c h k = (h.0, h.1, counts_push (answer s first).state events event h.0 b c h.2 k)

module _ (s : DeskState) (events : List Event) (i : ℕ) (event : Event) (lt : i < length events) (is : event ≡ get_or events i event) where
  one_more : take (i + 1) events ≡ take i events ++ event ∷ []
  one_more = take_more events i event lt ∙ ap (λ (e : Event). take i events ++ e ∷ []) (sym is)

  pub after_more : after_events s (take (i + 1) events) ≡ (answer (after_events s (take i events)) event).state
  after_more = ap (after_events s) one_more ∙ after_push s (take i events) event

  pub replies_more : replies s (take (i + 1) events) ≡ replies s (take i events) ++ (answer (after_events s (take i events)) event).reply ∷ []
  replies_more = ap (replies s) one_more ∙ replies_push s (take i events) event

  pub counts_more : (a b c : ℕ) → EventsCount s (take i events) a b → EventCounts (after_events s (take i events)) event b c → EventsCount s (take (i + 1) events) a c
  counts_more a b c h k = rw one_more (counts_push s (take i events) event a b c h k)

  pub stops : (d e : Desk) (a b c : ℕ) → StandsFor d (after_events s (take i events)) → IsAsBefore d e → EventsCount s (take i events) a b → EventCounts (after_events s (take i events)) event b c
      → StopsWithin s events e a c
  stops d e a b c st same h k = record { handled = i; state = stands_as_before d e (after_events s (take i events)) same st; counted = counts_more a b c h k }

-- ---- events that count nothing

group_counts_nothing : (s : DeskState) (ops : List Op) (early : Option Reply) (n : ℕ) → GroupCounts s ops early n n
group_counts_nothing s ops (Some reply) n = refl
group_counts_nothing s ops None n = counts_none (after_ops s.files 0 ops) (files_facts s.files) n

event_counts_nothing : (s : DeskState) (event : Event) (n : ℕ) → EventCounts s event n n
event_counts_nothing s (Enter editor) n = refl
event_counts_nothing s (Leave editor) n = refl
event_counts_nothing s (Propose editor base ops) n = group_counts_nothing s ops (early_reply s editor base ops) n

pub counts_nothing : (s : DeskState) (events : List Event) (n : ℕ) → EventsCount s events n n
unfolding EventsCount
counts_nothing s [] n = refl
counts_nothing s (event ∷ events) n = (n, event_counts_nothing s event n, counts_nothing (answer s event).state events n)

-- what holds anyway holds of an error
