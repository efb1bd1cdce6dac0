pub mod Lines
pub mod Cases
pub mod Grammar
pub mod ValidFacts
pub mod Misses
pub mod Checks
pub mod Examples
