use Rattle.ucd_model.specs.ValidityProofs.{valid_is_unbroken}
use Rattle.edit_session.specs.Benches.{bench_facts}
use Rattle.edit_session.proofs.bench.Bench.open.Goals as goal

pub returns-in-Ok-clause-valid : goal.returns-in-Ok-clause-valid
returns-in-Ok-clause-valid g c = (valid_is_unbroken (bench_facts c.args.release)).0 c.in-Ok.ensures.now.valid
