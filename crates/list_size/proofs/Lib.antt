pub mod Closed
pub mod Example
