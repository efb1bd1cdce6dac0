pub mod QuestionCache
pub mod KeptProofs
pub mod UneditedProofs
