use Rattle.std.proofs.Common.{refl, subst}
use Rattle.edit_session.specs.Benches.{IsUnbroken}
use Rattle.ucdshop_more_core.proofs.conform_plan.misses_in.Goals as goal

-- the facts of a bench are those of its rows, which are valid
pub misses-requires : goal.misses-requires
misses-requires c = record { valid = record { rows = _; facts_are = refl; valid = subst IsUnbroken c.release-release.ensures.same c.release-release.ensures.valid } }
