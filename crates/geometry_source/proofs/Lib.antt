pub mod Unreachable
pub mod Cut
