use Rattle.std.proofs.Common.{ap}
use Rattle.fact_tables.specs.Lists.{slice_at}
use Rattle.fact_tables.specs.declared.pool_range.PoolRange.{PoolRange}
use Rattle.fact_tables.proofs.point_lists.PointLists.commit.Goals as goal

pub returns-clause-next : goal.returns-clause-next
returns-clause-next c k lt = ap (λ (place : PoolRange). slice_at c.args.self.now.pool.items place) (c.commit.ensures.next k lt)
