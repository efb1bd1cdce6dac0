use Rattle.case_derivation.specs.CasingProofs.{title_without_cased}
use Rattle.case_derivation.proofs.laws.title_without_cased.Goals as goal

pub returns : goal.returns
returns c = title_without_cased
