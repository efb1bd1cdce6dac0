pub mod Steps
pub mod Matching
pub mod CasingLaws
pub mod CasingProofs
