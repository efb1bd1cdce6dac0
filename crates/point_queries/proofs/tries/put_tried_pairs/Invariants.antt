use Rattle.std.proofs.Common.{◌≡◌, ◌++◌, None, drop}
use Rattle.ucd_model.specs.CanonicalOrder.{class_of}
use Rattle.ucd_facts.specs.Composites.{pair_of}
use Rattle.point_queries.specs.Tries.{tries_from}
use Rattle.point_queries.proofs.tries.put_tried_pairs.Given as goal

-- the pairs that are tried at what is left, behind those so far, are what all gives
abbrev pub invariant-points : goal.invariant-points
invariant-points g l = l.asked.items ++ tries_from (class_of (g.W.FactView.facts_of l.view)) (pair_of (g.W.FactView.facts_of l.view)) l.starter (drop l.y-index l.points)
    ≡ l.initial.asked.items ++ tries_from (class_of (g.W.FactView.facts_of l.view)) (pair_of (g.W.FactView.facts_of l.view)) None l.points
