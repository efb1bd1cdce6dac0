use Rattle.std.proofs.Common.{◌-◌}
use Rattle.fact_tables.specs.FactTables.{facts_at}
use Rattle.fact_tables.specs.declared.now_or_next.NowOrNext.TheVariants.{Now}
use Rattle.fact_tables.proofs.SweepLemmas.{GathersBelow}
use Rattle.fact_tables.proofs.fact_tables.FactTables.candidates.Given as goal

-- the candidates whose key stands below `from` are gathered
abbrev pub invariant-listed : goal.invariant-listed
invariant-listed g l = GathersBelow l.keys (facts_at Now l.self) l.from

abbrev pub decreases-listed : goal.decreases-listed
decreases-listed g l = 18446744073709551616 - l.from
