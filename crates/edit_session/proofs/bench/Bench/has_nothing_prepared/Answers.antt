use Rattle.std.proofs.Common.{subst}
use Rattle.edit_session.specs.Benches.{HasNothingPrepared}
use Rattle.edit_session.proofs.bench.Bench.has_nothing_prepared.Goals as goal

pub returns : goal.returns
returns c = subst HasNothingPrepared c.release.ensures.same c.release.ensures.still
