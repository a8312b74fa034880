pub mod Long
pub mod Room
pub mod Whole
pub mod Lent
pub mod Sending
pub mod Applied
