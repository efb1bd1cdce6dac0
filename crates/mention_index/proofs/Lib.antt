pub mod StepLemmas
pub mod WalkLemmas
pub mod WalkSteps
pub mod AboutLemmas
