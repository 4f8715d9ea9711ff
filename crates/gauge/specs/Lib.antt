pub mod Lowest
pub mod Marked
pub mod Meaning
