pub mod Cuts
pub mod Items
pub mod Fields
pub mod Laws
pub mod Digits
