pub mod MadeTexts
pub mod Lines
pub mod Examples
