pub mod Fitting
pub mod Marks
pub mod Splitting
