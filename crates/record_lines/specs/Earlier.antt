-- The records of all code points as they were, and how they follow a bench.
-- earlier_record e c       the record of c that e keeps
-- updated points S E c     the record of c: that of S if c is one of the points, else that of E
-- differing R S            the code points, ascending, of which the records R and S differ
-- FollowingCatchesUp       records that are those of R are those of S once they are updated at the code points at which R and S differ
use Rattle.std.specs.Prelude.{◌≡◌, ℕ, not, List, filter, if◌then◌else◌}
use Rattle.std.specs.List.{range_with_len}
use Rattle.range_table.specs.Values.{SameValues}
use Rattle.record_table.specs.Records.{record_now}
use Rattle.ucd_points.specs.Limits.{point_count}
use Rattle.ucd_model.specs.Records.{Record}
use Rattle.ucd_model.specs.Sameness.{is_in, same_record}
use Rattle.record_lines.specs.declared.earlier_records.EarlierRecords.{EarlierRecords}

abbrev pub earlier_record : EarlierRecords → ℕ → Record
earlier_record e c = record_now e.table c

abbrev pub updated : List ℕ → (ℕ → Record) → (ℕ → Record) → ℕ → Record
updated points S E c = if is_in points c then S c else E c

abbrev pub differing : (ℕ → Record) → (ℕ → Record) → List ℕ
differing R S = filter (λ c. not (same_record (R c) (S c))) (range_with_len 0 point_count)

abbrev pub FollowingCatchesUp : Type 0
FollowingCatchesUp = (E R S : ℕ → Record) (points : List ℕ) → SameValues E R → points ≡ differing R S → SameValues (updated points S E) S
