mod PointLemmas
mod Following
mod LineLemmas
mod ToldLemmas
