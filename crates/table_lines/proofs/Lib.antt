pub mod Digits
pub mod Stores
pub mod Putting
pub mod Example
pub mod Longest
