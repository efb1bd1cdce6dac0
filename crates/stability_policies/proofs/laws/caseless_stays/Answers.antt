use Rattle.stability_policies.proofs.StableProofs.{caseless_stays}
use Rattle.stability_policies.proofs.laws.caseless_stays.Goals as goal

pub returns : goal.returns
returns c = caseless_stays
