pub mod Limits
pub mod Places
pub mod Bounds
