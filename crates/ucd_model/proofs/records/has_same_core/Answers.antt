use Rattle.std.proofs.Common.{ap}
use Rattle.ucd_model.specs.Records.{Record}
use Rattle.ucd_model.proofs.records.has_same_core.Goals as goal

pub returns-clause-same : goal.returns-clause-same
returns-clause-same c = λ e. c.is_same.ensures.told.1 (λ core. ap (λ (R : Record). R.core core) e)
