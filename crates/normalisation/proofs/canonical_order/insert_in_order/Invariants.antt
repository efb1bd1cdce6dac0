use Rattle.std.proofs.Common.{◌≡◌, ◌+◌, ◌≤◌, true, ◌∷◌, ◌++◌, take, drop, set}
use Rattle.std.specs.List.{list_all}
use Rattle.ucd_model.specs.CanonicalOrder.{class_of, greater}
use Rattle.normalisation.proofs.canonical_order.insert_in_order.Given as goal

-- with the point put at the free place, the list is as before but for the point, which has passed those of greater classes
abbrev pub invariant-greater : goal.invariant-greater
invariant-greater g l = record {
  within : l.place ≤ l.at;
  shape : set l.s l.place l.y ≡ take l.place (take l.at l.initial.s) ++ l.y ∷ (drop l.place (take l.at l.initial.s) ++ drop (l.at + 1) l.initial.s);
  above : list_all (greater (class_of (g.W.FactView.facts_of l.view)) l.y) (drop l.place (take l.at l.initial.s)) ≡ true;
}

abbrev pub decreases-greater : goal.decreases-greater
decreases-greater g l = l.place
