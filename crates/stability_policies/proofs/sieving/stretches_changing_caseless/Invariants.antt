use Rattle.std.proofs.Common.{◌≡◌, ◌-◌, ◌≤◌}
use Rattle.stability_policies.specs.BrokenStretches.{breaking, points_of}
use Rattle.stability_policies.specs.declared.policy.Policy.TheVariants.{P10}
use Rattle.stability_policies.proofs.sieving.stretches_changing_caseless.Given as goal

-- the stretches so far are those of the code points so far
abbrev pub invariant-points : goal.invariant-points
invariant-points g l = record {
  so_far : points_of P10 l.stretches ≡ breaking P10 (g.O.FactView.facts_of l.old) (g.N.FactView.facts_of l.new) l.number;
  within : l.number ≤ 1114112;
}

abbrev pub decreases-points : goal.decreases-points
decreases-points g l = 1114112 - l.number
