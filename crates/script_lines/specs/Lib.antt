pub mod Lines
pub mod Scripts
pub mod Pieces
pub mod Groups
pub mod Grammar
pub mod Faults
