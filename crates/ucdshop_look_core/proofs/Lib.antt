pub mod LookLemmas
mod ToldTexts
pub mod NothingWritten
pub mod CheckEnds
pub mod RangeLemmas
pub mod PointSpanLemmas
pub mod OrderLemmas
pub mod ChangeLemmas
