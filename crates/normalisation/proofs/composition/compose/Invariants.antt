use Rattle.std.proofs.Common.{◌≡◌, ◌≤◌, [], length, take, drop}
use Rattle.ucd_model.specs.CanonicalOrder.{class_of}
use Rattle.ucd_facts.specs.Composites.{pair_of}
use Rattle.ucd_model.specs.Composition.{last_starter, compose_onto}
use Rattle.normalisation.specs.SoFar.{Describes}
use Rattle.normalisation.proofs.composition.compose.Given as goal

-- what is left, put behind what is composed, gives what all gives
abbrev pub invariant-points : goal.invariant-points
invariant-points g l = record {
  so_far : l.so_far.len ≤ l.at;
  length : length l.s ≡ length l.initial.s;
  starter : Describes (class_of (g.W.FactView.facts_of l.view)) (last_starter (class_of (g.W.FactView.facts_of l.view)) (take l.so_far.len l.s)) l.so_far.starter;
  rest : compose_onto (class_of (g.W.FactView.facts_of l.view)) (pair_of (g.W.FactView.facts_of l.view)) (take l.so_far.len l.s) (drop l.at l.s)
      ≡ compose_onto (class_of (g.W.FactView.facts_of l.view)) (pair_of (g.W.FactView.facts_of l.view)) [] l.initial.s;
}
