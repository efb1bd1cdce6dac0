use Rattle.std.proofs.Common.{◌<◌, ◌+◌, List, ◌∷◌, drop, length, ap, subst, sym, ◌∙◌, arith}
use Rattle.std.proofs.lemmas.List.{drop_all, drop_more}
use Rattle.ucdshop_more_core.specs.Turns.{request_turn, request_turns}
use Rattle.ucdshop_more_core.specs.declared.desk_log.DeskLog.{DeskLog}
use Rattle.ucdshop_more_core.specs.declared.requests.Request.{Request}
use Rattle.ucdshop_more_core.proofs.SessionLemmas.{IsLogged, counted_once, logged_all, logged_first, logged_next}
use Rattle.ucdshop_more_core.proofs.desk_session.hold_session.Goals as goal

pub requests-init : goal.requests-init
requests-init g c = record {
  logged = λ s st. logged_first s (request_turns c.args.requests.now) c.new-log.result c.args.desk.now c.new-log.ensures st;
  room = omega arith;
  counted = omega (arith, ap (λ (l : DeskLog). l.accepted + l.refused) c.new-log.ensures);
}

pub reply_to-requires-clause-room : goal.reply_to-requires-clause-room
reply_to-requires-clause-room g c =
    let lt : c.requests.request-index < length c.args.requests.now = omega arith in
    omega (arith, c.requires.room, c.requests.invariant.room)

pub requests-preserved : goal.requests-preserved
requests-preserved g c =
    let all : List Request = c.args.requests.now in
    let at = c.requests.request-index in
    let lt : at < length all = omega arith in
    let left = drop_more all at c.request-item.result lt ∙ ap (λ (r : Request). r ∷ drop (at + 1) all) (sym c.request-item.is) in
    record {
      logged = λ s st.
          logged_next s (request_turns all) (request_turn c.request-item.result) (request_turns (drop (at + 1) all)) c.requests.log c.requests.desk c.put.new.self c.reply_to.new.desk c.in_ok-reply.reply
          (subst (λ (rest : List Request). IsLogged s (request_turns all) (request_turns rest) c.requests.log c.requests.desk) left (c.requests.invariant.logged s st))
          c.in_ok-put.ensures c.in_ok-reply.ensures.reply c.in_ok-reply.ensures.state;
      room = omega (arith, c.reply_to.ensures.revision, c.requests.invariant.room);
      counted = omega (arith, counted_once c.in_ok-reply.reply, ap (λ (l : DeskLog). l.accepted) c.in_ok-put.ensures, ap (λ (l : DeskLog). l.refused) c.in_ok-put.ensures, c.requests.invariant.counted);
    }

pub returns : goal.returns
returns g c = λ s st.
    let all : List Request = c.args.requests.now in
    logged_all s (request_turns all) (request_turns (drop c.requests.request-index all)) c.requests.log c.requests.desk
    (ap request_turns (drop_all c.requests.request-index all (omega (arith, c.requests-test.false)))) (c.requests.invariant.logged s st)
