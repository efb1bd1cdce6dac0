use Rattle.std.proofs.Common.{length, ap, ◌∙◌}
use Rattle.release_rows.specs.declared.stored_item.StoredItem.{StoredItem}
use Rattle.release_rows.proofs.StoredRows.{item_there}
use Rattle.release_rows.proofs.stored_row.store_row.Goals as goal

pub returns-clause-item : goal.returns-clause-item
returns-clause-item c =
    let s : StoredItem = record { start = c.in_ok-start.start; len = c.in_ok-start.len; ending = c.args.ending; lines = c.lines_in.result; brief = c.of_row.result } in
    rw c.in_ok-append.ensures.ok (item_there c.args.file c.args.row.now c.args.text.now c.args.bytes.now s c.rows_are_read.ensures c.rows_are_no_trivia.ensures c.requires (c.in_ok-start.ensures.0 ∙ ap length c.as_slice.ensures) c.in_ok-start.ensures.1 c.lines_in.ensures)
