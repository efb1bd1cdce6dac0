pub mod StepLemmas
pub mod AnswerLemmas
pub mod FaultLemmas
pub mod BinaryDigits
pub mod RisingEdges
