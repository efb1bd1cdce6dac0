use Rattle.ucd_model.specs.ValidityProofs.{valid_is_unbroken}
use Rattle.edit_session.specs.Benches.{bench_facts}
use Rattle.edit_session.proofs.bench.Bench.release.Goals as goal

pub returns-clause-valid : goal.returns-clause-valid
returns-clause-valid c = (valid_is_unbroken (bench_facts c.self.inside.release)).0 c.self.invariant.now.valid
