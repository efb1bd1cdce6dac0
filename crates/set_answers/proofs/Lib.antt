pub mod QuestionLemmas
pub mod AskingLemmas
