use Rattle.ucd_model.specs.ValidityProofs.{endless_has_chain}
use Rattle.ucd_model.proofs.validity_laws.endless_has_chain.Goals as goal

pub returns : goal.returns
returns c = endless_has_chain
