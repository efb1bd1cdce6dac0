use Rattle.ucd_model.specs.SamenessProofs.{facts_are_told}
use Rattle.ucd_model.proofs.sameness_laws.facts_are_told.Goals as goal

pub returns : goal.returns
returns c = facts_are_told
