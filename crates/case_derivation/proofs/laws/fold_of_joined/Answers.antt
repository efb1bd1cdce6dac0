use Rattle.case_derivation.specs.CasingProofs.{fold_of_joined}
use Rattle.case_derivation.proofs.laws.fold_of_joined.Goals as goal

pub returns : goal.returns
returns c = fold_of_joined
