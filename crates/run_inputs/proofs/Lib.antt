pub mod LoadingLemmas
pub mod BenchLemmas
mod SameSources
