-- What is kept of the first code points while those of a release are derived.
--
-- F is the facts of each code point.
-- SameRecords R S              the records of the code points are the same
-- DerivedBelow R n F           R gives each point below n the record that is derived of it
-- IsValidBelow F n             no point below n breaks a rule
-- IsRecordSpan F run           the points of the run have its record
-- StandsBehind F R left end    R gives each point before the run `left` the record that is derived of it, and the run goes up to `end`
-- IsFound F c result           the result is the record of c, or in its place c with the first rule that it breaks; no claim if
--                              memory ran out
use Rattle.std.specs.Prelude.{◌≡◌, ℕ, ◌<◌, ◌≤◌, Result, Ok, Err, ⊤}
use Rattle.ucd_facts.specs.Facts.{Facts}
use Rattle.ucd_points.specs.Limits.{point_count}
use Rattle.ucd_model.specs.Records.{Record, derived, kept_record}
use Rattle.ucd_model.specs.declared.records.Record.{Record as KeptRecord}
use Rattle.edit_session.specs.declared.first_points.RecordSpan.{RecordSpan}
use Rattle.edit_session.specs.declared.open_stop.OpenStop.{OpenStop}
use Rattle.edit_session.specs.declared.open_stop.OpenStop.TheVariants.{Invalid, Memory}

abbrev pub SameRecords : (ℕ → Record) → (ℕ → Record) → Type 0
SameRecords R S = (c : ℕ) → c < point_count → R c ≡ S c

abbrev pub DerivedBelow : (ℕ → Record) → ℕ → (ℕ → Facts) → Type 0
DerivedBelow R n F = (c : ℕ) → c < n → derived F c ≡ Ok (R c)

abbrev pub IsValidBelow : (ℕ → Facts) → ℕ → Type 0
IsValidBelow F n = (c : ℕ) → c < n → (R : Record) × (derived F c ≡ Ok R)

pub record IsRecordSpan (F : ℕ → Facts) (run : RecordSpan) : Type 0 where
  pub ordered : run.span.lo ≤ run.span.hi
  pub inside : run.span.hi < 1114112
  pub records : (c : ℕ) → run.span.lo ≤ c → c ≤ run.span.hi → derived F c ≡ Ok (kept_record run.value)

pub record StandsBehind (F : ℕ → Facts) (R : ℕ → Record) (left : RecordSpan) (end : ℕ) : Type 0 where
  pub below : DerivedBelow R left.span.lo F
  pub run : IsRecordSpan F left
  pub ends : left.span.hi ≡ end

abbrev pub IsFound : (ℕ → Facts) → ℕ → Result KeptRecord OpenStop → Type 0
IsFound F c (Ok value) = derived F c ≡ Ok (kept_record value)
IsFound F c (Err (Invalid rule point)) = (point ≡ c) × (derived F c ≡ Err rule)
IsFound F c (Err Memory) = ⊤
