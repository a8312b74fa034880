pub mod Steps
pub mod Summed
pub mod Begun
pub mod Parts
pub mod Short
pub mod Bounded
pub mod Example
