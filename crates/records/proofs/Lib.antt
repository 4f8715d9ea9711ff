pub mod Bodies
pub mod Handing
pub mod Marking
pub mod Writing
