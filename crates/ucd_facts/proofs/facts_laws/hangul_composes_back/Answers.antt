use Rattle.ucd_facts.specs.FactsLemmas.{hangul_composes_back}
use Rattle.ucd_facts.proofs.facts_laws.hangul_composes_back.Goals as goal

pub returns : goal.returns
returns c = hangul_composes_back
