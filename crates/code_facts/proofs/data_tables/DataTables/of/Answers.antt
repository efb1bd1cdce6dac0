use Rattle.std.proofs.Common.{◌≡◌, ℕ, ◌<◌, List, IfOk, OnOk, subst}
use Rattle.ucd_facts.specs.Facts.{data_row, class_in}
use Rattle.ucd_facts.specs.declared.row.Row.{Row}
use Rattle.code_facts.specs.DataTables.{data_now}
use Rattle.code_facts.specs.Rows.{row_data}
use Rattle.code_facts.proofs.data_tables.DataTables.of.Goals as goal

pub returns : goal.returns
returns c =
    let rows : c.deref.result.now ≡ c.args.rows.now.unicode_data.items = c.deref.ensures.value in
    record {
      gives = subst (λ (rs : List Row). IfOk c.of_rows.result (λ tables. (k : ℕ) → k < 1114112 → data_now tables k ≡ row_data k (data_row rs k))) rows c.of_rows.ensures.gives;
      class = subst (λ (rs : List Row). OnOk c.of_rows.result ((k : ℕ) → class_in (data_row rs k) < 256)) rows c.of_rows.ensures.class;
    }
