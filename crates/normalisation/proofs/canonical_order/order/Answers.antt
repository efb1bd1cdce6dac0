use Rattle.std.proofs.Common.{ℕ, sym, ◌∙◌, arith}
use Rattle.ucd_model.specs.CanonicalOrder.{class_of}
use Rattle.normalisation.proofs.PlacingLemmas.{order_more, order_same_length, order_end}
use Rattle.normalisation.proofs.canonical_order.order.Goals as goal

pub points-preserved : goal.points-preserved
points-preserved g c =
    let class : ℕ → ℕ = class_of (g.W.FactView.facts_of c.args.view.now) in
    record {
      length = order_same_length class c.points.s c.insert_in_order.new.s c.points.at (omega arith) c.insert_in_order.ensures ∙ c.points.invariant.length;
      rest = order_more class c.points.s c.insert_in_order.new.s c.points.at (omega arith) c.insert_in_order.ensures ∙ c.points.invariant.rest;
    }

pub returns : goal.returns
returns g c = sym (order_end (class_of (g.W.FactView.facts_of c.args.view.now)) c.points.s c.points.at (omega arith)) ∙ c.points.invariant.rest
