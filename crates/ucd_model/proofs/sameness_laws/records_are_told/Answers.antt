use Rattle.ucd_model.specs.SamenessProofs.{records_are_told}
use Rattle.ucd_model.proofs.sameness_laws.records_are_told.Goals as goal

pub returns : goal.returns
returns c = records_are_told
