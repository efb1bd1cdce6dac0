use Rattle.ucd_model.specs.ValidityProofs.{valid_expands}
use Rattle.ucd_model.proofs.validity_laws.valid_expands.Goals as goal

pub returns : goal.returns
returns c = valid_expands
