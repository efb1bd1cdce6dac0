pub mod CutLemmas
pub mod PointLemmas
