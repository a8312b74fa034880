pub mod Reaching
pub mod Rows
pub mod Asked
pub mod Meaning
