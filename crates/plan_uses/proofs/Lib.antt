pub mod Parts
pub mod Owned
pub mod Sorted
pub mod OneUse
