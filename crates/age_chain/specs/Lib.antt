pub mod Ages
pub mod AgeLaws
pub mod Giving
pub mod Examples
