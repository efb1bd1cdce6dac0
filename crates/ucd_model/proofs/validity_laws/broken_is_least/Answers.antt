use Rattle.ucd_model.specs.ValidityProofs.{broken_is_least}
use Rattle.ucd_model.proofs.validity_laws.broken_is_least.Goals as goal

pub returns : goal.returns
returns c = broken_is_least
