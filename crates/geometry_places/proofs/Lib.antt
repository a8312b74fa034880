pub mod Refused
pub mod Room
pub mod Conversions
pub mod Accepted
