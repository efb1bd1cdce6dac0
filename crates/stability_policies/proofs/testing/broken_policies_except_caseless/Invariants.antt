use Rattle.std.proofs.Common.{◌≡◌, ◌≢◌, ◌<◌}
use Rattle.stability_policies.specs.BrokenStretches.{has_policy}
use Rattle.stability_policies.specs.Policies.{breaks, place_of_policy}
use Rattle.stability_policies.specs.declared.policy.Policy.{Policy}
use Rattle.stability_policies.specs.declared.policy.Policy.TheVariants.{P10}
use Rattle.stability_policies.proofs.testing.broken_policies_except_caseless.Given as goal

-- the set tells of the policies so far, but for P10
abbrev pub invariant-policies : goal.invariant-policies
invariant-policies g l = (policy : Policy) → place_of_policy policy < l.policy-index → policy ≢ P10 → has_policy l.policies policy ≡ breaks policy (g.O.FactView.facts_of l.old) (g.N.FactView.facts_of l.new) l.c
