use Rattle.code_facts.specs.LocalityProofs.{facts_are_local}
use Rattle.code_facts.proofs.laws.facts_are_local.Goals as goal

pub returns : goal.returns
returns c = facts_are_local
