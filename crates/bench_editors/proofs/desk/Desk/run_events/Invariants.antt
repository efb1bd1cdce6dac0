use Rattle.std.proofs.Common.{◌≡◌, ◌≤◌, ◌+◌, take, vec_capacity, vec_len, length}
use Rattle.bench_editors.specs.Desks.{DeskState, EventsCount, after_events, replies}
use Rattle.bench_editors.specs.Standing.{StandsFor, desk_revision}
use Rattle.bench_editors.proofs.desk.Desk.run_events.Given as goal

abbrev pub invariant-events : goal.invariant-events
invariant-events g l = record {
  replies : (s : DeskState) → StandsFor l.initial.self s → l.replies.items ≡ replies s (take l.event-index l.events);
  state : (s : DeskState) → StandsFor l.initial.self s → StandsFor l.self (after_events s (take l.event-index l.events));
  counted : (s : DeskState) → StandsFor l.initial.self s → EventsCount s (take l.event-index l.events) l.initial.steps l.steps;
  long : vec_len l.replies ≡ l.event-index;
  spare : length l.events ≤ vec_capacity l.replies;
  room : desk_revision l.self ≤ desk_revision l.initial.self + l.event-index;
}
