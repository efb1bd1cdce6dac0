use Rattle.std.proofs.Common.{◌+◌, List, length, sym, ap, subst, ◌∙◌, arith, All}
use Rattle.std.proofs.lemmas.List.Elements.{All-tail}
use Rattle.script_pieces.specs.Pieces.{FitsBelow, Piece}
use Rattle.script_pieces.specs.Views.{piece_of}
use Rattle.ucdshop_more_core.specs.Turns.{onto, request_turns, turns_of}
use Rattle.ucdshop_more_core.proofs.requests.read_requests.Goals as goal

pub pieces-preserved : goal.pieces-preserved
pieces-preserved c =
    let steps = c.in-Some.ensures.steps in
    record {
      whole = sym (c.in_ok-put_request.ensures.turn (turns_of c.next.new.self)) ∙ ap (λ (left : List Piece). onto (request_turns c.pieces.requests) (turns_of left)) (sym steps) ∙ c.pieces.invariant.whole;
      fits = All-tail (FitsBelow (1 + length c.args.bytes.now)) (piece_of c.in-Some.piece) c.next.new.self (subst (All (FitsBelow (1 + length c.args.bytes.now))) steps c.pieces.invariant.fits);
      ready = c.in_ok-put_request.ensures.ready c.pieces.invariant.ready;
      few = omega (arith, ap length steps, c.put_request.ensures.few, c.pieces.invariant.few);
    }
