pub mod Decoded
pub mod Example
pub mod Checks
