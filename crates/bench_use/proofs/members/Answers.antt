use Rattle.std.proofs.Common.{sym, ap}
use Rattle.release_rows.specs.Releases.{ReleaseItems, rows_now}
use Rattle.ucd_facts.specs.Facts.{facts}
use Rattle.bench_use.proofs.members.Goals as goal

pub eval-requires-clause-categories : goal.eval-requires-clause-categories
eval-requires-clause-categories c = λ k lt. ap (λ (r : ReleaseItems). (facts (rows_now r) k).category) (sym c.release-release.ensures.same)
