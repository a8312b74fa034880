pub mod Values
pub mod Words
pub mod Asked
