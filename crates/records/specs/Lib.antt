pub mod Item
pub mod Shape
pub mod Standing
pub mod View
