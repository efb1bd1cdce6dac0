use Rattle.ucd_facts.specs.FactsLemmas.{image_is_other}
use Rattle.ucd_facts.proofs.facts_laws.image_is_other.Goals as goal

pub returns : goal.returns
returns c = image_is_other
