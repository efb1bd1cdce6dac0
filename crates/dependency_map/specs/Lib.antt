pub mod Index
pub mod Askers
pub mod Maps
pub mod Laws
pub mod LawProofs
pub mod Examples
