use Rattle.std.proofs.Common.{◌≡◌, ◌≤◌, ◌<◌, ◌-◌, ℕ, length, get_or}
use Rattle.std.specs.Borrow.{Bor}
use Rattle.ucd_model.specs.Labels.{Label}
use Rattle.ucd_model.specs.Records.{Record, kept_record}
use Rattle.ucd_model.specs.declared.records.Record.{Record as Kept}
use Rattle.derived_writer.specs.Listings.{TellsSame}
use Rattle.derived_writer.proofs.listing.end_by.Given as goal

-- the records so far have the label of the first
abbrev pub invariant-records : goal.invariant-records
invariant-records g l = record {
  from : l.at < l.end;
  within : l.end ≤ length l.records;
  same : (f : Record → Label) → TellsSame (goal.F-post g l.is_same) f → (k : ℕ) (kept : Bor Kept) → l.at ≤ k → k < l.end → f (kept_record (get_or l.records k kept).now) ≡ f (kept_record l.first);
}

abbrev pub decreases-records : goal.decreases-records
decreases-records g l = length l.records - l.end
