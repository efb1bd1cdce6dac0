use Rattle.std.proofs.Common.{◌≤◌, ◌-◌, length, take}
use Rattle.ucd_facts.specs.Expansion.{joined, expand}
use Rattle.decomposition.specs.Walk.{Behind}
use Rattle.decomposition.proofs.expansion.+put_bounded_expansion.Given as goal

abbrev pub decreases-put_bounded_expansion : goal.decreases-put_bounded_expansion
decreases-put_bounded_expansion g l = l.levels

-- what stands now is the points at first, and behind them what the members so far give
abbrev pub invariant-members : goal.invariant-members
invariant-members g l = record {
  room : length l.points ≤ 65;
  above : Behind l.initial.points l.points (joined (expand (g.W.FactView.facts_of l.view) l.compat (l.levels - 1)) (take l.member-index l.mapping));
}
