use Rattle.std.proofs.Common.{ap}
use Rattle.ucd_facts.specs.Facts.{Facts}
use Rattle.ucd_facts.proofs.sameness.has_same_flags.Goals as goal

pub returns-clause-same : goal.returns-clause-same
returns-clause-same c = λ e. c.is_same.ensures.told.1 (λ flag. ap (λ (F : Facts). F.flag flag) e)
