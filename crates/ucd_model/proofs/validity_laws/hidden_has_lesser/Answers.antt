use Rattle.ucd_model.specs.ValidityProofs.{hidden_has_lesser}
use Rattle.ucd_model.proofs.validity_laws.hidden_has_lesser.Goals as goal

pub returns : goal.returns
returns c = hidden_has_lesser
