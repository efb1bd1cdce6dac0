pub mod Lookups
pub mod Splices
pub mod Spans
pub mod RunCounts
mod RunEnds
