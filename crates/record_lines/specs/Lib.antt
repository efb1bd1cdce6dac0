pub mod Values
pub mod RecordTexts
pub mod FileLines
pub mod Finding
pub mod PointTexts
pub mod RowLines
pub mod Earlier
pub mod Examples
