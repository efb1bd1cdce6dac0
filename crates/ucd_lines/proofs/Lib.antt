pub mod Places
pub mod ItemCuts
pub mod FieldCuts
pub mod Digits
pub mod Endings
pub mod Lines
