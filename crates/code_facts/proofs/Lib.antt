pub mod RowLemmas
pub mod DataLemmas
pub mod MarkLemmas
pub mod FlagLemmas
pub mod CaseLemmas
pub mod FactLemmas
mod MidWordLemmas
mod ReleaseLemmas
