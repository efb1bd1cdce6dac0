use Rattle.std.proofs.Common.{rules}
use Rattle.derived_writer.specs.Listings.{listing_section}
use Rattle.derived_writer.proofs.listing.Listing.end_of_same.Goals as goal

pub returns-in-Core-clause-same : goal.returns-in-Core-clause-same
returns-in-Core-clause-same c = λ k kept low high. c.end_by.ensures.same (listing_section c.args.self).label (λ a b said post is. search rules) k kept low high

pub returns-in_default : goal.returns-in_default
returns-in_default c = record {
  from = c.end_by-in_default.ensures.from;
  within = c.end_by-in_default.ensures.within;
  same = λ k kept low high. c.end_by-in_default.ensures.same (listing_section c.args.self).label (λ a b said post is. search rules) k kept low high;
}
