use Rattle.std.proofs.Common.{◌<◌, List, ◌∷◌, [], ◌++◌, length, take, sym, ap, subst, ◌∙◌, arith, take_all}
use Rattle.ucd_points.specs.PlainProofs.{on_err_from}
use Rattle.bench_editors.specs.Desks.{DeskState, EventsCount, after_events, replies}
use Rattle.bench_editors.specs.Standing.{StandsFor, StopsWithin}
use Rattle.bench_editors.specs.declared.event.Event.{Event}
use Rattle.bench_editors.specs.declared.reply.Reply.{Reply}
use Rattle.bench_editors.proofs.EventLemmas.{after_more, counts_more, counts_nothing, replies_more, stops}
use Rattle.bench_editors.proofs.desk.Desk.run_events.Goals as goal

pub returns-in_err-replies-clause-err : goal.returns-in_err-replies-clause-err
returns-in_err-replies-clause-err g c = on_err_from c.from_residual.result
    (λ s st. record { handled = 0; state = st; counted = counts_nothing s (take 1 c.args.events.now) c.args.steps.now })

pub events-init : goal.events-init
events-init g c = record {
  replies = λ s st. c.in_ok-replies.ensures.items;
  state = λ s st. st;
  counted = λ s st. counts_nothing s [] c.args.steps.now;
  long = c.in_ok-replies.ensures.len;
  spare = c.in_ok-replies.ensures.capacity;
  room = omega arith;
}

pub step-requires-clause-room : goal.step-requires-clause-room
step-requires-clause-room g c =
    let lt : c.events.event-index < length c.args.events.now = omega arith in
    omega (arith, c.requires.room, c.events.invariant.room)

pub returns-in_err-reply-clause-err : goal.returns-in_err-reply-clause-err
returns-in_err-reply-clause-err g c = on_err_from c.from_residual-in_err-reply.result (λ s st.
    let lt : c.events.event-index < length c.args.events.now = omega arith in
    stops s c.args.events.now c.events.event-index c.event-item.result lt c.event-item.is c.events.self c.step.new.self c.args.steps.now c.events.steps c.step.new.steps
    (c.events.invariant.state s st) c.in_err-reply.ensures.err (c.events.invariant.counted s st) (c.step.ensures.counted _ (c.events.invariant.state s st)))

-- there is room for each reply
pub returns-in_err-push-clause-err : goal.returns-in_err-push-clause-err
returns-in_err-push-clause-err g c =
    let lt : c.events.event-index < length c.args.events.now = omega arith in
    absurd (omega (arith, c.in_err-push.ensures.full, c.events.invariant.long, c.events.invariant.spare))

pub events-preserved : goal.events-preserved
events-preserved g c =
    let lt : c.events.event-index < length c.args.events.now = omega arith in
    record {
      replies = λ s st.
          c.in_ok-push.ensures.items ∙ ap (λ (rs : List Reply). rs ++ c.in_ok-reply.reply ∷ []) (c.events.invariant.replies s st)
          ∙ ap (λ (r : Reply). replies s (take c.events.event-index c.args.events.now) ++ r ∷ []) (c.in_ok-reply.ensures.reply _ (c.events.invariant.state s st))
          ∙ sym (replies_more s c.args.events.now c.events.event-index c.event-item.result lt c.event-item.is);
      state = λ s st.
          subst (StandsFor c.step.new.self) (sym (after_more s c.args.events.now c.events.event-index c.event-item.result lt c.event-item.is)) (c.in_ok-reply.ensures.state _ (c.events.invariant.state s st));
      counted = λ s st.
          counts_more s c.args.events.now c.events.event-index c.event-item.result lt c.event-item.is c.args.steps.now c.events.steps c.step.new.steps (c.events.invariant.counted s st)
          (c.step.ensures.counted _ (c.events.invariant.state s st));
      long = omega (arith, c.in_ok-push.ensures.len, c.events.invariant.long);
      spare = omega (arith, c.push.ensures.capacity, c.events.invariant.spare);
      room = omega (arith, c.step.ensures.revision, c.events.invariant.room);
    }

pub returns-clause-replies : goal.returns-clause-replies
returns-clause-replies g c = λ s st.
    let all = take_all c.events.event-index c.args.events.now (omega (arith, c.events-test.false)) in
    c.from_vec.ensures ∙ c.events.invariant.replies s st ∙ ap (replies s) all

pub returns-clause-state : goal.returns-clause-state
returns-clause-state g c = λ s st.
    let all = take_all c.events.event-index c.args.events.now (omega (arith, c.events-test.false)) in
    subst (λ (es : List Event). StandsFor c.events.self (after_events s es)) all (c.events.invariant.state s st)

pub returns-clause-counted : goal.returns-clause-counted
returns-clause-counted g c = λ s st.
    let all = take_all c.events.event-index c.args.events.now (omega (arith, c.events-test.false)) in
    subst (λ (es : List Event). EventsCount s es c.args.steps.now c.events.steps) all (c.events.invariant.counted s st)
