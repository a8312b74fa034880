pub mod Sizes
pub mod Closed
