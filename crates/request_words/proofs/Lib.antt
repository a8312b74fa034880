pub mod Valuing
pub mod Wording
pub mod Writing
