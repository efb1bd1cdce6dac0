use Rattle.std.proofs.Common.{◌≡◌, sym, subst, ◌∙◌}
use Rattle.range_table.specs.RunTable.{values_now}
use Rattle.fact_tables.specs.FactTables.{tables_facts, tables_next}
use Rattle.fact_tests.proofs.changes.empty_tables.Goals as goal

pub returns : goal.returns
returns c = subst (λ t. tables_next values_now t ≡ tables_facts values_now t) (sym c.in_ok-new.ensures.ok) (c.in_ok-of.ensures.next ∙ sym c.in_ok-of.ensures.now)
