pub mod Histories
pub mod Ways
pub mod Laws
