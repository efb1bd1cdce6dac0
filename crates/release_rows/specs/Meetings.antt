-- The entries of a file that share a code point with spans.
-- entry_meets spans e    the code points from the first to the last one of the entry share one with some of the spans
use Rattle.std.specs.Prelude.{Bool, List}
use Rattle.std.specs.List.{list_any}
use Rattle.ucd_points.specs.Bounds.{Bounds}
use Rattle.part_list.specs.declared.entry.Entry.{Entry}
use Rattle.release_rows.specs.Keys.{spans_meet}
use Rattle.release_rows.specs.declared.stored_item.StoredItem.{StoredItem}

abbrev pub entry_meets : List Bounds → Entry StoredItem → Bool
entry_meets spans e = list_any (spans_meet (record { lo = e.code; hi = e.last })) spans
