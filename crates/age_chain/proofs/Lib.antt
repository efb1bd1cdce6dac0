pub mod AgeLemmas
pub mod TableLemmas
pub mod ListingLemmas
pub mod ChainLemmas
