use Rattle.ucd_facts.specs.CompositeProofs.{second_is_exact}
use Rattle.ucd_facts.proofs.composite_laws.second_is_exact.Goals as goal

pub returns : goal.returns
returns c = second_is_exact
