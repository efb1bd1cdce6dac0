use Rattle.std.proofs.Common.{◌≡◌, ◌+◌, length}
use Rattle.range_table.specs.Values.{SameValues}
use Rattle.record_table.specs.Records.{record_next, record_now, written}
use Rattle.record_table.proofs.table.RecordTable.prepare_all.Given as goal

-- the records so far are written
abbrev pub invariant-records : goal.invariant-records
invariant-records l = record {
  at : l.at ≡ length l.yielded;
  left : l.at + length l.record-iterator.rest.items ≡ length l.points;
  now : SameValues (record_now l.self) (record_now l.fn.self);
  next : SameValues (record_next l.self) (written l.points l.yielded (record_now l.fn.self));
}
