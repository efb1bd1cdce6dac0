use Rattle.ucd_model.specs.SamenessProofs.{sets_are_told}
use Rattle.ucd_model.proofs.sameness_laws.sets_are_told.Goals as goal

pub returns : goal.returns
returns c = sets_are_told
