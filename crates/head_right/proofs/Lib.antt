pub mod Twice
pub mod Inside
pub mod Parts
