use Rattle.std.proofs.Common.{◌≡◌, ◌++◌, take, flat_map}
use Rattle.stability_policies.specs.Policies.{policies}
use Rattle.ucdshop_look_core.specs.Checks.{broken_line}
use Rattle.ucdshop_look_core.proofs.refusals.put_broken.Given as goal

-- the lines of the policies so far
abbrev pub invariant-policies : goal.invariant-policies
invariant-policies l = l.text ≡ l.initial.text ++ flat_map (broken_line l.breaks) (take l.policy-index policies)
