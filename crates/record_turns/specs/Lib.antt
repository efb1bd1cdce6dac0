pub mod Again
pub mod Turned
