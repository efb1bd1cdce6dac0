use Rattle.std.proofs.Common.{◌≡◌, take, flat_map}
use Rattle.stability_policies.specs.Policies.{policies}
use Rattle.stability_policies.specs.Reports.{breaks_of}
use Rattle.stability_policies.proofs.reporting.report.Given as goal

-- the breaks of the policies so far
abbrev pub invariant-policies : goal.invariant-policies
invariant-policies g l = l.breaks ≡ flat_map (λ policy. breaks_of policy l.old_rows l.new_rows) (take l.policy-index policies)
