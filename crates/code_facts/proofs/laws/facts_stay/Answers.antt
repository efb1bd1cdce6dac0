use Rattle.code_facts.specs.LocalityProofs.{facts_stay}
use Rattle.code_facts.proofs.laws.facts_stay.Goals as goal

pub returns : goal.returns
returns c = facts_stay
