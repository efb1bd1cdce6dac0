mod WordRunLemmas
pub mod IndexLemmas
mod AlikeLemmas
mod PlainLemmas
pub mod TableLemmas
pub mod ChangeLemmas
mod SweepLemmas
mod RestLemmas
mod JoinedLemmas
