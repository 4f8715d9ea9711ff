pub mod Appending
pub mod Listing
pub mod Whole
