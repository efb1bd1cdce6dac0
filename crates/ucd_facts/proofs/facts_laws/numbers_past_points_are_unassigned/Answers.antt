use Rattle.ucd_facts.specs.FactsLemmas.{facts_outside}
use Rattle.ucd_facts.proofs.facts_laws.numbers_past_points_are_unassigned.Goals as goal

pub returns : goal.returns
returns c = facts_outside
