use Rattle.identifier_closure.specs.UniformProofs.{uniform_derived}
use Rattle.identifier_closure.proofs.laws.uniform_points_are_derived_alike.Goals as goal

pub returns : goal.returns
returns c = uniform_derived
