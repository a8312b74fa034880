pub mod Sums
pub mod Rows
pub mod Running
pub mod Whole
