use Rattle.ucd_model.specs.SamenessProofs.{kept_records_are_told}
use Rattle.ucd_model.proofs.sameness_laws.kept_records_are_told.Goals as goal

pub returns : goal.returns
returns c = kept_records_are_told
