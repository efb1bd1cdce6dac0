pub mod Laws
pub mod Stretches
