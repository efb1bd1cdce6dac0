pub mod PointLemmas
pub mod AskerLemmas
