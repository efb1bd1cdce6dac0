use Rattle.ucd_facts.specs.CompositeProofs.{pair_is_least}
use Rattle.ucd_facts.proofs.composite_laws.pair_is_least.Goals as goal

pub returns : goal.returns
returns c = pair_is_least
