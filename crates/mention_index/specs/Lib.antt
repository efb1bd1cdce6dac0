pub mod Reached
pub mod ReachProofs
pub mod Steps
pub mod Laws
pub mod StepProofs
pub mod Mentions
pub mod Walks
