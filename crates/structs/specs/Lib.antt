pub mod Sizes
pub mod Written
pub mod Encoded
pub mod Holds
