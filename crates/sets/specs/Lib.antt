pub mod Ones
pub mod Sets
