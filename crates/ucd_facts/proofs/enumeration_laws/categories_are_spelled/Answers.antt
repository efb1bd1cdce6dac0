use Rattle.ucd_facts.specs.NameProofs.{categories_are_spelled}
use Rattle.ucd_facts.proofs.enumeration_laws.categories_are_spelled.Goals as goal

pub returns : goal.returns
returns c = categories_are_spelled
