pub mod First
pub mod Begins
pub mod Learned
