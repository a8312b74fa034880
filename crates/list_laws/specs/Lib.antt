pub mod Long
pub mod Whole
pub mod Room
pub mod Sending
