pub mod Listings
pub mod TextLaws
pub mod Shown
