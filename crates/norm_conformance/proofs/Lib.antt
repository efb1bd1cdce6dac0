mod CaseLemmas
mod LinesSaid
mod CasesRead
mod ValidForms
mod PointLemmas
