use Rattle.dependency_map.specs.LawProofs.{askers_are_those}
use Rattle.dependency_map.proofs.laws.askers_are_those.Goals as goal

pub returns : goal.returns
returns c = askers_are_those
