use Rattle.stability_policies.specs.PolicyLists.{policies_are_whole}
use Rattle.stability_policies.proofs.laws.policies_are_whole.Goals as goal

pub returns : goal.returns
returns c = policies_are_whole
