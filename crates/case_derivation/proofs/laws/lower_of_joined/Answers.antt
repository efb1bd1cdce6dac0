use Rattle.case_derivation.specs.CasingProofs.{lower_of_joined}
use Rattle.case_derivation.proofs.laws.lower_of_joined.Goals as goal

pub returns : goal.returns
returns c = lower_of_joined
