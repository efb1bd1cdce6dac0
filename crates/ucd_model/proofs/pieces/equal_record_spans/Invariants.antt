use Rattle.std.proofs.Common.{◌≡◌, ℕ, ◌<◌, ◌≤◌}
use Rattle.ucd_model.specs.Records.{kept_record}
use Rattle.ucd_model.specs.Cuts.{IsCut}
use Rattle.ucd_model.proofs.pieces.equal_record_spans.Given as goal

-- the pieces go up to `first`, and from there on the records are the one that is shown
abbrev pub invariant-points : goal.invariant-points
invariant-points g l = record {
  begun : l.first < l.number;
  cut : IsCut (g.B.Records.record_of l.bench) 0 l.first l.pieces;
  equal : (k : ℕ) → l.first ≤ k → k < l.number → g.B.Records.record_of l.bench k ≡ g.B.Records.record_of l.bench l.first;
  shown : kept_record l.shown ≡ g.B.Records.record_of l.bench l.first;
}
