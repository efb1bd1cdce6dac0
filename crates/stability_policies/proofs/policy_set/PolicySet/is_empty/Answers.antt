use Rattle.std.proofs.Common.{arith}
use Rattle.stability_policies.proofs.PolicySets.{empty_decides}
use Rattle.stability_policies.proofs.policy_set.PolicySet.is_empty.Goals as goal

pub returns : goal.returns
returns c = empty_decides c.args.self c.contains.result (omega arith) c.contains.ensures.value
