pub mod Difference
pub mod Digits
pub mod Meaning
pub mod Plants
pub mod Racks
pub mod Setting
