pub mod First
pub mod Ranges
pub mod Step
