pub mod Seconds
pub mod Back
