pub mod Values
pub mod Layout
pub mod Edit
pub mod RunTable
