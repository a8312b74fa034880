pub mod Sorting
pub mod Head
pub mod Places
pub mod Parts
pub mod Sorted
