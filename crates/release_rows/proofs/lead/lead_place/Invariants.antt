use Rattle.std.proofs.Common.{◌≤◌, ◌-◌, length}
use Rattle.release_rows.proofs.lead.lead_place.Given as goal

abbrev pub invariant-halves : goal.invariant-halves
invariant-halves l = record {
  within : l.to ≤ length l.leads;
  ordered : l.from ≤ l.to;
}

abbrev pub decreases-halves : goal.decreases-halves
decreases-halves l = l.to - l.from
