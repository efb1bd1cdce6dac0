pub mod FormLemmas
pub mod HiddenLemmas
pub mod CompatLemmas
pub mod IdentifierLemmas
pub mod CoreSteps
pub mod RecordLemmas
