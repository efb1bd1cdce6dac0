use Rattle.std.proofs.Common.{◌≡◌, map, take, flat_map}
use Rattle.ucd_points.specs.Limits.{point_count}
use Rattle.ucd_model.specs.DerivedFiles.{section_of}
use Rattle.derived_writer.specs.Listings.{listing_section}
use Rattle.derived_writer.proofs.file.text_over.Given as goal

-- the sections so far
abbrev pub invariant-sections : goal.invariant-sections
invariant-sections g l = l.text ≡ flat_map (section_of point_count (g.B.Records.record_of l.bench)) (map listing_section (take l.listing-index l.listing-items))
