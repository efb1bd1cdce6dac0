pub mod Composites
pub mod CoreSets
pub mod PointForms
pub mod Derived
pub mod RuleProofs
pub mod PlainProofs
pub mod UniformLaws
pub mod UniformProofs
