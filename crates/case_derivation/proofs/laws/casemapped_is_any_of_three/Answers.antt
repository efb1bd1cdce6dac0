use Rattle.case_derivation.specs.CasingProofs.{casemaps_are_three}
use Rattle.case_derivation.proofs.laws.casemapped_is_any_of_three.Goals as goal

pub returns : goal.returns
returns c = casemaps_are_three
