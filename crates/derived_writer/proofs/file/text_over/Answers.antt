use Rattle.std.proofs.Common.{◌++◌, ◌∙◌, ℕ, List, get_or, sym, ap}
use Rattle.ucd_points.specs.Limits.{point_count}
use Rattle.ucd_model.specs.DerivedFiles.{Section, section_of}
use Rattle.derived_writer.specs.Listings.{listing_section}
use Rattle.derived_writer.specs.declared.listing.Listing.{Listing}
use Rattle.derived_writer.specs.declared.listing.Listing.TheVariants.{Core as CoreListing}
use Rattle.ucd_facts.specs.declared.property.Core.TheVariants.{Math}
use Rattle.derived_writer.proofs.CutLemmas.{flat_map-more}
use Rattle.derived_writer.proofs.file.text_over.Goals as goal

pub sections-preserved : goal.sections-preserved
sections-preserved g c =
    let section : Section → List ℕ = section_of point_count (g.B.Records.record_of c.args.bench.now) in
    let listings : List Listing = c.file_listings-listing-items.result.now in
    c.in_ok-put_section.ensures
    ∙ ap (λ (t : List ℕ). t ++ section (listing_section (get_or listings c.sections.listing-index (CoreListing Math)))) c.sections.invariant
    ∙ sym (flat_map-more section listing_section listings c.sections.listing-index (CoreListing Math) c.sections-test.true)
