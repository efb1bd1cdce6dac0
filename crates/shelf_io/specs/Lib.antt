pub mod Counts
pub mod Contents
pub mod Answers
pub mod Folders
pub mod Sinks
pub mod Systems
pub mod Beside
