pub mod Fit
pub mod Keeping
pub mod Limits
pub mod Links
pub mod Model
