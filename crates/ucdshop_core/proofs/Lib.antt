pub mod PathLemmas
pub mod LineLemmas
pub mod PlanningLemmas
pub mod MakingLemmas
pub mod SessionLemmas
