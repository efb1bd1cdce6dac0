use Rattle.std.proofs.Common.{◌<◌, ◌≤◌, sym, subst, arith, length}
use Rattle.ucd_facts.specs.declared.row.Row.{Row}
use Rattle.code_facts.specs.DataTables.{IsFresh, data_next}
use Rattle.code_facts.proofs.DataLemmas.{row_is_fresh, rows_none, rows_added, rows_all}
use Rattle.code_facts.proofs.data_tables.DataRuns.add_rows.Goals as goal

pub rows-init : goal.rows-init
rows-init c = rows_none c.args.rows.now (data_next c.args.self.now) c.requires.fresh

pub add_text-requires : goal.add_text-requires
add_text-requires c =
    let rows = c.args.rows.now in
    let inside : c.rows.row-index < length rows = omega arith in
    subst (λ (r : Row). IsFresh r (data_next c.rows.self)) (sym c.row-item.is) (row_is_fresh rows c.rows.row-index c.row-item.result (data_next c.rows.self) c.requires.apart inside c.rows.invariant)

pub rows-preserved : goal.rows-preserved
rows-preserved c =
    let rows = c.args.rows.now in
    let i = c.rows.row-index in
    let inside : i < length rows = omega arith in
    rows_added rows i c.row-item.result (data_next c.rows.self) (data_next c.add_text.new.self) c.requires.apart inside (rw (sym c.row-item.is) c.in_ok-add_text.ensures) c.rows.invariant

pub returns : goal.returns
returns c =
    let rows = c.args.rows.now in
    let past : length rows ≤ c.rows.row-index = omega arith in
    let all = rows_all rows c.rows.row-index (data_next c.rows.self) past c.rows.invariant in
    record { gives = all.0; class = all.1 }
