-- A session at a desk, request by request.
-- IsLogged s all rest log desk   the log so far, and behind it what is replied to the turns that are left, is what is replied to all
use Rattle.std.proofs.Common.{◌≡◌, ◌≤◌, ℕ, ◌+◌, cond, List, [], ◌∷◌, ◌++◌, refl, sym, ap, subst, ◌∙◌, arith, append_assoc, append-nil, count_by}
use Rattle.std.proofs.lemmas.List.Sums.{sum_by-cons}
use Rattle.bench_editors.specs.Desks.{DeskState, after_events, answer, replies}
use Rattle.bench_editors.specs.Standing.{StandsFor}
use Rattle.bench_editors.specs.declared.desk.Desk.{Desk}
use Rattle.bench_editors.specs.declared.reply.Reply.{Reply}
use Rattle.bench_editors.specs.declared.reply.Reply.TheVariants.{Entered, Accepted, Left, Present, Absent, Ahead, Stale, Refused}
use Rattle.ucdshop_more_core.specs.DeskTexts.{desk_log, is_accepted, is_turned_away, reply_line}
use Rattle.ucdshop_more_core.specs.Logging.{LogsAll}
use Rattle.ucdshop_more_core.specs.Run.{events_of, lines_of}
use Rattle.ucdshop_more_core.specs.Turns.{Turn}
use Rattle.ucdshop_more_core.specs.declared.desk_log.DeskLog.{DeskLog}

pub record IsLogged (s : DeskState) (all rest : List Turn) (log : DeskLog) (desk : Desk) : Type 0 where
  pub state : DeskState
  pub stands : StandsFor desk state
  pub text : log.text ++ desk_log (lines_of rest) (replies state (events_of rest)) ≡ desk_log (lines_of all) (replies s (events_of all))
  pub accepted : log.accepted + count_by is_accepted (replies state (events_of rest)) ≡ count_by is_accepted (replies s (events_of all))
  pub refused : log.refused + count_by is_turned_away (replies state (events_of rest)) ≡ count_by is_turned_away (replies s (events_of all))
  pub after : after_events state (events_of rest) ≡ after_events s (events_of all)

pub logged_first : (s : DeskState) (all : List Turn) (log : DeskLog) (desk : Desk) → log ≡ record { text = []; accepted = 0; refused = 0 } → StandsFor desk s → IsLogged s all all log desk
logged_first s all log desk none stands = record {
  state = s;
  stands = stands;
  text = ap (λ (l : DeskLog). l.text ++ desk_log (lines_of all) (replies s (events_of all))) none;
  accepted = omega (arith, ap (λ (l : DeskLog). l.accepted) none);
  refused = omega (arith, ap (λ (l : DeskLog). l.refused) none);
  after = refl;
}

abbrev with_reply : DeskLog → ℕ → Reply → DeskLog
with_reply log line reply = record {
  text = log.text ++ reply_line line reply;
  accepted = log.accepted + cond (is_accepted reply) 1 0;
  refused = log.refused + cond (is_turned_away reply) 1 0;
}

pub logged_next : (s : DeskState) (all : List Turn) (turn : Turn) (rest : List Turn) (log : DeskLog) (desk : Desk) (next : DeskLog) (after : Desk) (reply : Reply) → IsLogged s all (turn ∷ rest) log desk
    → next ≡ with_reply log turn.line reply → ((t : DeskState) → StandsFor desk t → reply ≡ (answer t turn.event).reply) → ((t : DeskState) → StandsFor desk t → StandsFor after (answer t turn.event).state)
    → IsLogged s all rest next after
logged_next s all turn rest log desk next after reply before put told stands =
    let t : DeskState = before.state in
    let more : List Reply = replies (answer t turn.event).state (events_of rest) in
    let same : next ≡ with_reply log turn.line (answer t turn.event).reply = put ∙ ap (with_reply log turn.line) (told t before.stands) in
    let r : Reply = (answer t turn.event).reply in
    let accepts : count_by is_accepted (replies t (events_of (turn ∷ rest))) ≡ cond (is_accepted r) 1 0 + count_by is_accepted more = sum_by-cons (λ (x : Reply). cond (is_accepted x) 1 0) r more in
    let refuses : count_by is_turned_away (replies t (events_of (turn ∷ rest))) ≡ cond (is_turned_away r) 1 0 + count_by is_turned_away more = sum_by-cons (λ (x : Reply). cond (is_turned_away x) 1 0) r more in
    record {
      state = (answer t turn.event).state;
      stands = stands t before.stands;
      text = ap (λ (l : DeskLog). l.text ++ desk_log (lines_of rest) more) same ∙ append_assoc log.text (reply_line turn.line r) (desk_log (lines_of rest) more) ∙ before.text;
      accepted = ap (λ (l : DeskLog). l.accepted + count_by is_accepted more) same ∙ omega (arith, accepts, before.accepted);
      refused = ap (λ (l : DeskLog). l.refused + count_by is_turned_away more) same ∙ omega (arith, refuses, before.refused);
      after = before.after;
    }

pub logged_all : (s : DeskState) (all rest : List Turn) (log : DeskLog) (desk : Desk) → rest ≡ [] → IsLogged s all rest log desk → LogsAll s all log desk
logged_all s all rest log desk none before =
    let last : IsLogged s all [] log desk = subst (λ (left : List Turn). IsLogged s all left log desk) none before in
    record {
      text = sym (append-nil log.text) ∙ last.text;
      accepted = omega (arith, last.accepted);
      refused = omega (arith, last.refused);
      state = subst (StandsFor desk) last.after last.stands;
    }

-- a reply is counted at most once
pub counted_once : (reply : Reply) → cond (is_accepted reply) 1 0 + cond (is_turned_away reply) 1 0 ≤ 1
counted_once (Entered revision) = omega arith
counted_once (Accepted revision points) = omega arith
counted_once Left = omega arith
counted_once Present = omega arith
counted_once Absent = omega arith
counted_once (Ahead revision) = omega arith
counted_once (Stale revision op) = omega arith
counted_once (Refused why) = omega arith
