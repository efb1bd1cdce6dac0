-- The records of all code points, now and next.
-- record_now table c           the record of c now, which the table holds at the place of c
-- record_next table c          the record of c next
-- place_now table c            the place at which the record of c now is held
-- place_next table c           the place at which the record of c next is held
-- written points records R c   the record of c, where R gives the record of each code point, and then the points get these records
--                              one after another, each the one at its place; a point or a record with none at its place does not count
use Rattle.std.specs.Prelude.{ℕ, List, [], ◌∷◌}
use Rattle.ucd_model.specs.Records.{Record, kept_record}
use Rattle.ucd_model.specs.declared.records.Record.{Record as KeptRecord}
use Rattle.range_table.specs.Values.{with_span}
use Rattle.point_store.specs.SlotStore.{places, values}
use Rattle.paged_table.specs.Paged.{values_next, values_now}
use Rattle.record_table.specs.declared.table.RecordTable.{RecordTable}

abbrev pub record_now : RecordTable → ℕ → Record
record_now table c = kept_record (values values_now table.records c)

abbrev pub record_next : RecordTable → ℕ → Record
record_next table c = kept_record (values values_next table.records c)

abbrev pub place_now : RecordTable → ℕ → ℕ
place_now table c = places values_now table.records c

abbrev pub place_next : RecordTable → ℕ → ℕ
place_next table c = places values_next table.records c

abbrev pub written : List ℕ → List KeptRecord → (ℕ → Record) → ℕ → Record
written points [] R c = R c
written [] (r ∷ records) R c = R c
written (p ∷ points) (r ∷ records) R c = written points records (with_span R p p (kept_record r)) c
