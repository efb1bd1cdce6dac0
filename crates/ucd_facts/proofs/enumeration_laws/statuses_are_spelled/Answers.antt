use Rattle.ucd_facts.specs.NameProofs.{statuses_are_spelled}
use Rattle.ucd_facts.proofs.enumeration_laws.statuses_are_spelled.Goals as goal

pub returns : goal.returns
returns c = statuses_are_spelled
