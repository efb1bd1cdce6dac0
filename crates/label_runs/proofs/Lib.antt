pub mod RunLemmas
pub mod SectionLemmas
