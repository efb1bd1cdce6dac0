use Rattle.std.proofs.Common.{refl}
use Rattle.fact_tables.specs.FactTables.{tables_facts}
use Rattle.paged_table.specs.Paged.{values_now}
use Rattle.edit_session.proofs.derivation.derive_over.Goals as goal

pub returns-in-Ok-clause-now : goal.returns-in-Ok-clause-now
returns-in-Ok-clause-now g c = record {
  same = refl;
  valid = c.in-Ok.ensures.valid;
  records = c.in-Ok.ensures.records;
  kept = c.new.ensures.now (tables_facts values_now c.args.tables);
}
