use Rattle.ucdshop_look_core.proofs.ChangeLemmas.{stages_follow_the_session}
use Rattle.ucdshop_look_core.proofs.laws.stages_follow_the_session.Goals as goal

pub returns : goal.returns
returns c = stages_follow_the_session
