pub mod Questions
pub mod SetTexts
pub mod RowNames
pub mod RowNamesProofs
pub mod KeptPieces
pub mod Refusals
pub mod Asking
