pub mod Blocks
pub mod Puts
pub mod Layers
pub mod Pages
pub mod Paged
