use Rattle.std.proofs.Common.{◌≡◌, [], length, take, drop}
use Rattle.ucd_model.specs.CanonicalOrder.{class_of, order_onto}
use Rattle.normalisation.proofs.canonical_order.order.Given as goal

-- what is left, put onto what is in order, gives what all gives
abbrev pub invariant-points : goal.invariant-points
invariant-points g l = record {
  length : length l.s ≡ length l.initial.s;
  rest : order_onto (class_of (g.W.FactView.facts_of l.view)) (take l.at l.s) (drop l.at l.s) ≡ order_onto (class_of (g.W.FactView.facts_of l.view)) [] l.initial.s;
}
