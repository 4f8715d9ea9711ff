pub mod Comparing
pub mod Firsts
pub mod Writes
