use Rattle.ucdshop_look_core.proofs.CheckEnds.{ends_as_apply}
use Rattle.ucdshop_look_core.proofs.laws.check_ends_as_apply.Goals as goal

pub returns : goal.returns
returns c = ends_as_apply
