pub mod Steps
pub mod ComposedProofs
pub mod AlikeProofs
pub mod RoundLaws
pub mod RoundProofs
