use Rattle.mention_index.specs.StepProofs.{asked_lead as law}
use Rattle.mention_index.proofs.laws.asked_lead.Goals as goal

pub returns : goal.returns
returns c = law
