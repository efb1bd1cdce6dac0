use Rattle.std.proofs.Common.{◌-◌, ◌≤◌, ℕ, All}
use Rattle.record_table.specs.Records.{record_now}
use Rattle.ucd_model.specs.Cuts.{IsCut}
use Rattle.ucd_model.specs.Records.{Record}
use Rattle.edit_session.specs.Benches.{EndsAlike}
use Rattle.edit_session.specs.FirstRecords.{SameRecords}
use Rattle.edit_session.proofs.pieces.pieces_of.Given as goal

-- the pieces go up to this number, and each ends where the next code point has another record
abbrev pub invariant-pieces : goal.invariant-pieces
invariant-pieces l = record {
  cut : (R : ℕ → Record) → SameRecords (record_now l.records) R → IsCut R 0 l.number l.pieces;
  ends : (R : ℕ → Record) → SameRecords (record_now l.records) R → All (EndsAlike R) l.pieces;
  within : l.number ≤ 1114112;
}

abbrev pub decreases-pieces : goal.decreases-pieces
decreases-pieces l = 1114112 - l.number
