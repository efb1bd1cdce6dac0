use Rattle.ucd_facts.specs.NameProofs.{names_tell_values}
use Rattle.ucd_facts.proofs.enumeration_laws.names_tell_values.Goals as goal

pub returns : goal.returns
returns c = names_tell_values
