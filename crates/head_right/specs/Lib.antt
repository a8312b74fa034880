pub mod Twice
pub mod Parts
