use Rattle.ucdshop_look_core.proofs.CheckEnds.{ends_as_derive}
use Rattle.ucdshop_look_core.proofs.laws.check_ends_as_derive.Goals as goal

pub returns : goal.returns
returns c = ends_as_derive
