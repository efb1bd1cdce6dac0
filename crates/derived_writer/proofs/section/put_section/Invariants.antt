use Rattle.std.proofs.Common.{◌-◌, ◌++◌, length, drop}
use Rattle.ucd_points.specs.Limits.{point_count}
use Rattle.ucd_model.specs.Cuts.{IsCut}
use Rattle.label_runs.specs.Sections.{section_head, IsWritten}
use Rattle.derived_writer.specs.Listings.{listing_section, listing_labels}
use Rattle.derived_writer.proofs.section.put_section.Given as goal

-- the section so far, and the pieces that are left
abbrev pub invariant-runs : goal.invariant-runs
invariant-runs g l = record {
  cut : IsCut (g.B.Records.record_of l.bench) l.section.end point_count (drop l.at l.pieces);
  written : IsWritten point_count (listing_labels l.listing (g.B.Records.record_of l.bench)) (l.fn.text ++ section_head (listing_section l.listing).name) l.section l.text;
}

abbrev pub decreases-runs : goal.decreases-runs
decreases-runs g l = length l.pieces - l.at
