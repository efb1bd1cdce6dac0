use Rattle.ucd_facts.specs.FactsLemmas.{image_is_same}
use Rattle.ucd_facts.proofs.facts_laws.image_is_same.Goals as goal

pub returns : goal.returns
returns c = image_is_same
