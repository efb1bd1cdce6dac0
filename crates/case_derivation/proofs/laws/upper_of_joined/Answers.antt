use Rattle.case_derivation.specs.CasingProofs.{upper_of_joined}
use Rattle.case_derivation.proofs.laws.upper_of_joined.Goals as goal

pub returns : goal.returns
returns c = upper_of_joined
