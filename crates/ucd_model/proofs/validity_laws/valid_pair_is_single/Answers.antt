use Rattle.ucd_model.specs.ValidityProofs.{valid_pair_is_single}
use Rattle.ucd_model.proofs.validity_laws.valid_pair_is_single.Goals as goal

pub returns : goal.returns
returns c = valid_pair_is_single
