pub mod Laws
pub mod Rows
pub mod Told
pub mod Narrow
pub mod Example
pub mod Folds
