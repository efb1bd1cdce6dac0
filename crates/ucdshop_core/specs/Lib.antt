pub mod SessionLaws
pub mod OutputLaws
pub mod LineLaws
pub mod Planning
pub mod RunExamples
