use Rattle.ucd_facts.specs.EnumerationProofs.{enumerations_are_whole}
use Rattle.ucd_facts.proofs.enumeration_laws.enumerations_are_whole.Goals as goal

pub returns : goal.returns
returns c = enumerations_are_whole
