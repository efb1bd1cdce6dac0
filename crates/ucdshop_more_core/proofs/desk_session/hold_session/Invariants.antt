use Rattle.std.proofs.Common.{◌≤◌, ◌+◌, drop}
use Rattle.bench_editors.specs.Desks.{DeskState}
use Rattle.bench_editors.specs.Standing.{StandsFor, desk_revision}
use Rattle.ucdshop_more_core.specs.Turns.{request_turns}
use Rattle.ucdshop_more_core.proofs.SessionLemmas.{IsLogged}
use Rattle.ucdshop_more_core.proofs.desk_session.hold_session.Given as goal

-- the log so far, and what is replied to the requests that are left
abbrev pub invariant-requests : goal.invariant-requests
invariant-requests g l = record {
  logged : (s : DeskState) → StandsFor l.initial.desk s → IsLogged s (request_turns l.requests) (request_turns (drop l.request-index l.requests)) l.log l.desk;
  room : desk_revision l.desk ≤ desk_revision l.initial.desk + l.request-index;
  counted : l.log.accepted + l.log.refused ≤ l.request-index;
}
