use Rattle.std.proofs.Common.{◌≤◌, ◌-◌}
use Rattle.ucd_facts.specs.Composites.{composes}
use Rattle.fact_tables.specs.FactTables.{facts_at}
use Rattle.fact_tables.specs.Index.{NoneBelow}
use Rattle.fact_tables.proofs.fact_tables.FactTables.composite.Given as goal

-- no code point below `from` is looked for
abbrev pub invariant-listed : goal.invariant-listed
invariant-listed g l = record {
  within : l.from ≤ 1114112;
  none : NoneBelow (composes (facts_at l.version l.self) l.s l.y) l.from;
}

abbrev pub decreases-listed : goal.decreases-listed
decreases-listed g l = 1114112 - l.from
