pub mod Checks
pub mod CheckLaws
pub mod CheckProofs
