pub mod Lookups
pub mod LooseLaws
pub mod NumbersAt
pub mod NumberedRows
pub mod PropertyLaws
pub mod RowsNumbers
mod PlacedNames
