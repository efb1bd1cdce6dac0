use Rattle.ucd_model.specs.ValidityProofs.{valid_is_unbroken}
use Rattle.ucd_model.proofs.validity_laws.valid_is_unbroken.Goals as goal

pub returns : goal.returns
returns c = valid_is_unbroken
