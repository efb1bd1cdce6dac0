pub mod Parts
pub mod Apart
pub mod Touched
pub mod Steps
pub mod OwnBlocks
pub mod Counts
