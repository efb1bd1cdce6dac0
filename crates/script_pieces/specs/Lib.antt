pub mod Pieces
pub mod Views
pub mod Scripts
pub mod Decimals
pub mod Examples
