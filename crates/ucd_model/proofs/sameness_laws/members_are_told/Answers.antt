use Rattle.ucd_model.specs.SamenessProofs.{members_are_told}
use Rattle.ucd_model.proofs.sameness_laws.members_are_told.Goals as goal

pub returns : goal.returns
returns c = members_are_told
