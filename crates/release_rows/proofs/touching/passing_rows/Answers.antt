use Rattle.std.proofs.lemmas.List.Elements.{All-rest}
use Rattle.release_rows.specs.StoredItems.{IsStored}
use Rattle.release_rows.proofs.MeetingRows.{rows_more}
use Rattle.release_rows.proofs.Walks.{first_of}
use Rattle.release_rows.proofs.touching.passing_rows.Goals as goal

pub put_row-requires : goal.put_row-requires
put_row-requires c = first_of (IsStored c.args.file c.args.text.now) c.items.items c.in-Some.entry c.next.new.self c.in-Some.ensures.steps c.items.invariant.each

-- the row of one more item is put
pub items-preserved : goal.items-preserved
items-preserved c = record {
  each = All-rest (IsStored c.args.file c.args.text.now) c.in-Some.entry c.next.new.self c.items.items c.in-Some.ensures.steps c.items.invariant.each;
  so_far = rows_more c.args.file c.args.text.now c.items.items c.in-Some.entry c.next.new.self c.items.rows.items c.put_row.new.rows.items _ c.in-Some.ensures.steps c.in_ok-put_row.ensures c.items.invariant.so_far;
}
