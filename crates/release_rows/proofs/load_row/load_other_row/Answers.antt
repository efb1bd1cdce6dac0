use Rattle.source_rows.specs.RowRefs.{row_in}
use Rattle.release_rows.proofs.load_row.load_other_row.Goals as goal

-- a row that was read is one that its file can have
pub loaded_row_of-requires : goal.loaded_row_of-requires
loaded_row_of-requires c =
    let row = row_in c.in-Ok.row in
    (c.possible_rows_are_readable.ensures c.args.file row).1 (c.args.content.now, (c.rows_are_read.ensures c.args.file c.args.content.now row).0 c.in-Ok.ensures)
