pub mod Slots
pub mod SlotStore
pub mod Copies
